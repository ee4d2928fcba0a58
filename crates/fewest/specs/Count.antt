-- The count of cells: what the answer says, Theorem B, and that no fewer cells serve. Assumes nothing.
use Rattle.std.specs.Prelude.{◌≡◌, Bool, true, List, ℕ, ◌^◌, ◌≤◌, ◌<◌, min}
use Rattle.std.specs.Int.Bits.{bit_xor}
use Rattle.limits.specs.Limits.{max_vertices, search_outputs}
use Rattle.bits.specs.Digit.{on}
use Rattle.bits.specs.Count.{count}
use Rattle.bits.specs.Filled.{Filled}
use Rattle.cells.specs.Core.{Differ, Answer, core_of}
use Rattle.problem.specs.Problem.{label_at, item}
use Rattle.subproblems.specs.Subproblem.{open_of}
use Rattle.seeking.specs.Seeking.{Lacks}

-- r has the first n codes with every table complemented where it is 1 at vertex 0
abbrev pub Zeroed : List ℕ → ℕ → List ℕ → Type 0
Zeroed codes n r = Filled max_vertices (λ x. bit_xor (item codes x) (item codes 0)) n r

-- the first n numbers of r are the open cells of rows
abbrev pub Opened : List ℕ → ℕ → List ℕ → Type 0
Opened rows n r = Filled search_outputs (λ o. open_of (item rows o)) n r

-- no fewer than u cells serve
pub record NoFewer (cl given budgets : List ℕ) (v m u : ℕ) : Type 0 where
  pub none : (w : ℕ) → w < u → Lacks cl given budgets 0 0 v m w 0

-- What `fewest` answers: Theorem B, and that each output reads as many of the cells as its budget and their number allow.
pub record Answered (cl budgets : List ℕ) (v m limit : ℕ) (found : Bool) (u : ℕ) (rows codes : List ℕ) : Type 0 where
  pub answer : Answer v m (Differ (label_at cl)) (item budgets) limit found (core_of u (item rows) (item codes))
  pub few : u ≤ limit
  pub low : found ≡ true → (o : ℕ) → o < m → item rows o < 2 ^ u
  pub full : found ≡ true → (o : ℕ) → o < m → count (on (item rows o)) u ≡ min (item budgets o) u
