-- What a core of cells is and when it serves. Vertices, outputs and cells are numbers. Which pairs of vertices an output
-- has to tell apart (its conflicts) and how many cells it may read (its budget) are given. Assumes nothing.
use Rattle.std.specs.Prelude.{◌≡◌, Bool, true, false, List, [], ◌∷◌, ◌⊎◌, ℕ, zero, suc, ◌+◌, ◌≤◌, ◌<◌, length}
use Rattle.bits.specs.Logic.{bit}
use Rattle.bits.specs.Digit.{on}

-- A cell: its value at each vertex, and which outputs read it.
pub record Cell : Type 0 where
  pub table : ℕ → Bool
  pub readers : ℕ → Bool

-- Some cell that output o reads differs at x and y.
abbrev pub Apart : ℕ → ℕ → ℕ → List Cell → Type 0
Apart o x y [] = ⊥
Apart o x y (c ∷ l) = ((c.readers o ≡ true) × (c.table x ≡ c.table y → ⊥)) ⊎ Apart o x y l

-- How many cells output o reads.
unfoldable pub reading : ℕ → List Cell → ℕ
reading o [] = 0
reading o (c ∷ l) = bit (c.readers o) + reading o l

-- A core, a list of cells, serves: each of the m outputs tells its conflicting vertices apart and reads within its budget.
pub record Serves (v m : ℕ) (Conflict : ℕ → ℕ → ℕ → Type 0) (budget : ℕ → ℕ) (l : List Cell) : Type 0 where
  pub tells : (o x y : ℕ) → o < m → x < v → y < v → Conflict o x y → Apart o x y l
  pub within : (o : ℕ) → o < m → reading o l ≤ budget o

-- The conflict that class labels give: the classes differ.
abbrev pub Differ : (ℕ → ℕ → ℕ) → ℕ → ℕ → ℕ → Type 0
Differ cls o x y = cls o x ≡ cls o y → ⊥

-- The conflict of labels with parts: two classes of one part. A class belongs to a part, so equal classes have equal parts.
abbrev pub Within : (ℕ → ℕ → ℕ) → (ℕ → ℕ → ℕ) → ℕ → ℕ → ℕ → Type 0
Within part cls o x y = (part o (cls o x) ≡ part o (cls o y)) × (cls o x ≡ cls o y → ⊥)

-- Every table is 0 at vertex 0.
abbrev pub ZeroFirst : List Cell → Type 0
ZeroFirst [] = Unit {0}
ZeroFirst (c ∷ l) = (c.table 0 ≡ false) × ZeroFirst l

-- A core that serves, with every table 0 at vertex 0, and than which no core that serves has fewer cells.
pub record Least (v m : ℕ) (Conflict : ℕ → ℕ → ℕ → Type 0) (budget : ℕ → ℕ) (l : List Cell) : Type 0 where
  pub serves : Serves v m Conflict budget l
  pub zero : ZeroFirst l
  pub fewest : (k : List Cell) → Serves v m Conflict budget k → length l ≤ length k

-- The answer to a problem within a limit. Found: l is a least core within the limit. Not found: every core that serves
-- has more cells than the limit. Which of the least cores is found is free.
abbrev pub Answer : (v m : ℕ) → (ℕ → ℕ → ℕ → Type 0) → (ℕ → ℕ) → ℕ → Bool → List Cell → Type 0
Answer v m Conflict budget limit true l = (length l ≤ limit) × Least v m Conflict budget l
Answer v m Conflict budget limit false l = (k : List Cell) → Serves v m Conflict budget k → limit < length k

-- Cells i to i + n - 1 as numbers give them: cell i is digit i of a number for each output, the cells that it reads, and
-- of a number for each vertex, its code.
unfoldable pub cells_from : ℕ → ℕ → (ℕ → ℕ) → (ℕ → ℕ) → List Cell
cells_from zero i rows codes = []
cells_from (suc n) i rows codes = record { table = λ x. on (codes x) i; readers = λ o. on (rows o) i } ∷ cells_from n (suc i) rows codes

-- The core of u cells that reading sets and codes give.
abbrev pub core_of : ℕ → (ℕ → ℕ) → (ℕ → ℕ) → List Cell
core_of u rows codes = cells_from u 0 rows codes
