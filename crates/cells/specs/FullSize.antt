-- A core of open cells and given ones, whose tables are known, as numbers: of n = u + g cells the first u are open and the others
-- given, and each output reads as many cells as it may. Open cells may be complemented. Assumes nothing.
use Rattle.std.specs.Prelude.{◌≡◌, List, [], ◌∷◌, ℕ, suc, ◌+◌, ◌^◌, min, ◌<◌, leb}
use Rattle.std.specs.Int.Bits.{bit_xor}
use Rattle.bits.specs.Logic.{andb}
use Rattle.bits.specs.Digit.{on}
use Rattle.bits.specs.Count.{count}
use Rattle.cells.specs.Core.{Cell}
use Rattle.cells.specs.Codes.{Coded, digits_of}

-- u open cells and g given ones, given x being the values of the given cells at vertex x: each output reads as many cells
-- as it may
pub record Full (u g v m : ℕ) (Conflict : ℕ → ℕ → ℕ → Type 0) (budget given rows codes : ℕ → ℕ) : Type 0 where
  pub coded : Coded v m Conflict rows codes
  pub full : (o : ℕ) → o < m → count (on (rows o)) (u + g) ≡ min (budget o) (u + g)
  pub short : (o : ℕ) → rows o < 2 ^ (u + g)
  pub low : (x : ℕ) → codes x < 2 ^ (u + g)
  pub known : (i x : ℕ) → i < g → on (codes x) (u + i) ≡ on (given x) i

-- the tables of l, cell d of it read by the outputs whose row has digit i + d
unfoldable pub read_by : ℕ → (ℕ → ℕ) → List Cell → List Cell
read_by i rows [] = []
read_by i rows (c ∷ l) = record { table = c.table; readers = λ o. on (rows o) i } ∷ read_by (suc i) rows l

-- the digits from k to u - 1 of n
abbrev pub between : ℕ → ℕ → ℕ → ℕ
between k u n = digits_of (λ (i : ℕ). andb (leb k i) (on n i)) u

-- the tables of cells k to u - 1 complemented where they are 1 at vertex 0
abbrev pub cleared : ℕ → ℕ → (ℕ → ℕ) → ℕ → ℕ
cleared k u codes x = bit_xor (codes x) (between k u (codes 0))
