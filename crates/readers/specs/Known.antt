-- Known digits of cell 0 where the search for codes starts, and where it ends. They take part in the search where some output
-- reads cell 0: then the cell counts as shared and is in no group. Where no output reads it, they are written into the codes
-- found. Assumes nothing.
use Rattle.std.specs.Prelude.{◌≡◌, Bool, true, false, List, ◌⊎◌, ℕ, ◌≤◌, ◌<◌, length}
use Rattle.limits.specs.Limits.{max_vertices, max_codes, max_cells}
use Rattle.bits.specs.Digit.{on}
use Rattle.problem.specs.Problem.{item}
use Rattle.coding.specs.Known.{Fitting}

-- cell 0 is in sh where some of its digits are known
abbrev pub Public : ℕ → ℕ → Type 0
Public kn sh = (x : ℕ) → on kn x ≡ true → on sh 0 ≡ true

-- code 0 has the known digit of vertex 0
abbrev pub Zero : ℕ → ℕ → ℕ → Type 0
Zero kn val v = 0 < v → on kn 0 ≡ true → on val 0 ≡ false

-- r is kn, or no vertex where no output reads cell 0
abbrev pub Asked : List ℕ → ℕ → ℕ → ℕ → Type 0
Asked rows j kn r = (r ≡ kn) ⊎ ((r ≡ 0) × ((o : ℕ) → o < j → on (item rows o) 0 ≡ false))

-- r has the cells of sh that may be in a group
pub record Groupable (sh kn r : ℕ) : Type 0 where
  pub low : r < max_codes
  pub among : (i : ℕ) → on r i ≡ true → on sh i ≡ true
  pub without : (x : ℕ) → on kn x ≡ true → on r 0 ≡ false

-- the first n sets have the codes with the known digit of their vertex
pub record Fitted (kn val n : ℕ) (dom : List ℕ) : Type 0 where
  pub long : length dom ≡ max_vertices
  pub fits : (x : ℕ) → x < n → Fitting kn val x (item dom x)

-- a code with the digit d of cell 0 where that is known, and the other digits of c
pub record Digit (c : ℕ) (known d : Bool) (r : ℕ) : Type 0 where
  pub there : known ≡ true → on r 0 ≡ d
  pub others : (i : ℕ) → i < max_cells → (i ≡ 0 → ⊥) → on r i ≡ on c i

-- the known digits written at the first n vertices
pub record Wrote (kn val : ℕ) (codes : List ℕ) (n : ℕ) (r : List ℕ) : Type 0 where
  pub long : length r ≡ max_vertices
  pub done : (x : ℕ) → x < n → Digit (item codes x) (on kn x) (on val x) (item r x)
  pub rest : (x : ℕ) → n ≤ x → item r x ≡ item codes x
