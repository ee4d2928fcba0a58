-- How a subproblem is put into one order of its open cells, and how its outputs are gathered before it is asked. Assumes
-- nothing.
use Rattle.std.specs.Prelude.{◌≡◌, true, false, List, ℕ, ◌≤◌, ◌<◌, length}
use Rattle.limits.specs.Limits.{search_outputs, max_cells}
use Rattle.bits.specs.Digit.{on}
use Rattle.problem.specs.Problem.{item}
use Rattle.subproblems.specs.Subproblem.{open_of, given_of}

-- r has the first i digits of the set f in the order perm, and no more
pub record Moved (f : ℕ) (perm : List ℕ) (i r : ℕ) : Type 0 where
  pub digits : (j : ℕ) → j < i → on r j ≡ on f (item perm j)
  pub rest : (j : ℕ) → i ≤ j → on r j ≡ false

-- the first o rows of r are those of rows with the open cells in the order perm, where they are asked about
pub record Turned (asked : ℕ) (rows perm : List ℕ) (o : ℕ) (r : List ℕ) : Type 0 where
  pub long : length r ≡ search_outputs
  pub same-given : (q : ℕ) → q < o → on asked q ≡ true → given_of (item r q) ≡ given_of (item rows q)
  pub moved_open : (q : ℕ) → q < o → on asked q ≡ true → Moved (open_of (item rows q)) perm max_cells (open_of (item r q))

-- the first o outputs are looked through: n of them are asked about, from has their numbers, cells and tables what they read
pub record Gathered (asked : ℕ) (rows : List ℕ) (o n : ℕ) (from cells tables : List ℕ) : Type 0 where
  pub from_long : length from ≡ search_outputs
  pub cells_long : length cells ≡ search_outputs
  pub tables_long : length tables ≡ search_outputs
  pub few : n ≤ o
  pub from_low : (i : ℕ) → i < search_outputs → item from i < search_outputs
  pub within : (i : ℕ) → i < n → on asked (item from i) ≡ true
  pub all : (q : ℕ) → q < o → on asked q ≡ true → (i : ℕ) × (i < n) × (item from i ≡ q)
  pub reads-cells : (i : ℕ) → i < n → item cells i ≡ open_of (item rows (item from i))
  pub reads_tables : (i : ℕ) → i < n → item tables i ≡ given_of (item rows (item from i))
