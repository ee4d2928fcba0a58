-- Codes for given reading sets. A cell that two outputs read is shared, the others are private; the search gives codes of the
-- shared cells alone, and private cells are written afterwards. Here stand the shared cells, each output's plan (its shared and
-- private cells and how many codes they allow), where the search starts, and what its answer has to say. Assumes nothing.
use Rattle.limits.specs.Limits.{search_outputs, max_vertices, max_codes, max_cells}
use Rattle.cells.specs.Lists.{All, Pairs}
use Rattle.std.specs.Prelude.{◌≡◌, Bool, true, false, List, ℕ, ◌-◌, ◌^◌, ◌≤◌, ◌<◌, length}
use Rattle.std.specs.Int.Bits.{bit_and}
use Rattle.bits.specs.Digit.{on}
use Rattle.bits.specs.Count.{count}
use Rattle.bits.specs.Filled.{Filled}
use Rattle.cells.specs.Codes.{Coded}
use Rattle.cells.specs.Shared.{shared_code}
use Rattle.problem.specs.Problem.{no_code, label_at, part_at, item, Fixed}
use Rattle.cells.specs.Core.{Within}
use Rattle.coding.specs.Known.{Fitting}

-- each output reads cells below 6
abbrev pub Short : List ℕ → ℕ → Type 0
Short rows j = (o : ℕ) → o < j → item rows o < max_codes

-- sh has every cell that two of the first j outputs read
pub record Common (rows : List ℕ) (j sh : ℕ) : Type 0 where
  pub two : (o q i : ℕ) → o < j → q < j → (o ≡ q → ⊥) → on (item rows o) i ≡ true → on (item rows q) i ≡ true → on sh i ≡ true
  pub low : sh < max_codes

-- the cells that output o reads and that are not in sh
abbrev pub private_cells : List ℕ → ℕ → ℕ → ℕ
private_cells rows sh o = bit_and (item rows o) (2 ^ 8 - 1 - sh)

-- the first n outputs' shared and private cells, 2 to the number of the private ones, and 2 to the number of all
pub record Planned (rows : List ℕ) (sh n : ℕ) (ms ps caps spots : List ℕ) : Type 0 where
  pub shared : Filled search_outputs (λ o. bit_and (item rows o) sh) n ms
  pub private : Filled search_outputs (private_cells rows sh) n ps
  pub caps_are : Filled search_outputs (λ o. 2 ^ count (on (private_cells rows sh o)) max_cells) n caps
  pub spots_are : Filled search_outputs (λ o. 2 ^ count (on (item rows o)) max_cells) n spots

-- once has what some output before o reads, many what two of them read
pub record Seen (rows : List ℕ) (o once many : ℕ) : Type 0 where
  pub any : (q i : ℕ) → q < o → on (item rows q) i ≡ true → on once i ≡ true
  pub two : (p q i : ℕ) → p < o → q < o → (p ≡ q → ⊥) → on (item rows p) i ≡ true → on (item rows q) i ≡ true → on many i ≡ true

-- vertex 0 has code 0, no other has a code, and any code with the known digit of cell 0 may be taken
pub record Start (kn val : ℕ) (codes dom : List ℕ) : Type 0 where
  pub first : item codes 0 ≡ 0
  pub others : (x : ℕ) → x < max_vertices → (x ≡ 0 → ⊥) → item codes x ≡ no_code
  pub any : (x : ℕ) → x < max_vertices → Fitting kn val x (item dom x)

-- the answer: codes that tell the classes apart and have the known digits of cell 0, or there are none with code 0 at vertex 0
abbrev pub Decided : List ℕ → ℕ → ℕ → List ℕ → ℕ → ℕ → Bool → List ℕ → Type 0
Decided cl v j rows kn val true r = Coded v j (Within (part_at cl) (label_at cl)) (item rows) (item r) × Fixed kn val v (item r)
Decided cl v j rows kn val false r = (f : ℕ → ℕ) → Coded v j (Within (part_at cl) (label_at cl)) (item rows) f → Fixed kn val v f → f 0 ≡ 0 → ⊥

-- what base promises of every core
pub record Bounds (cl base : List ℕ) (rows : List ℕ) (sh : ℕ) (ms : List ℕ) (v j : ℕ) : Type 0 where
  pub needs : (f : ℕ → ℕ) → Coded v j (Within (part_at cl) (label_at cl)) (item rows) f → (o l : ℕ) → o < j → l < 32
      → (xs : List ℕ) × All (λ (x : ℕ). (x < v) × (label_at cl o x ≡ l)) xs × Pairs (λ (x y : ℕ). bit_and (shared_code sh f x) (item ms o) ≡ bit_and (shared_code sh f y) (item ms o) → ⊥) xs ×
      (label_at base o l ≤ length xs)
