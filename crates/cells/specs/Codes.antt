-- A core as numbers: for each output the cells that it reads, for each vertex the values of the cells, cell i being digit i. Telling
-- apart is then that the mask of what an output reads leaves different numbers of the two codes. Assumes nothing.
use Rattle.std.specs.Prelude.{◌≡◌, Bool, true, List, [], ◌∷◌, ℕ, zero, suc, ◌+◌, ◌*◌, ◌<◌}
use Rattle.std.specs.Int.Bits.{bit_and}
use Rattle.bits.specs.Logic.{bit}
use Rattle.bits.specs.Digit.{on}
use Rattle.cells.specs.Core.{Cell}

-- the first j outputs tell their conflicting vertices apart
pub record Coded (v j : ℕ) (Conflict : ℕ → ℕ → ℕ → Type 0) (rows codes : ℕ → ℕ) : Type 0 where
  pub tells : (o x y : ℕ) → o < j → x < v → y < v → Conflict o x y → bit_and (codes x) (rows o) ≡ bit_and (codes y) (rows o) → ⊥

-- the cells with p, as a number
unfoldable pub number_of : (Cell → Bool) → List Cell → ℕ
number_of p [] = 0
number_of p (c ∷ l) = bit (p c) + 2 * number_of p l

abbrev pub row_of : List Cell → ℕ → ℕ
row_of l o = number_of (λ c. c.readers o) l

abbrev pub code_of : List Cell → ℕ → ℕ
code_of l x = number_of (λ c. c.table x) l

-- the number with the digits p below n
unfoldable pub digits_of : (ℕ → Bool) → ℕ → ℕ
digits_of p zero = 0
digits_of p (suc n) = bit (p 0) + 2 * digits_of (λ (i : ℕ). p (suc i)) n

-- a and b agree in the digits of mask below u
abbrev pub Agree : ℕ → ℕ → ℕ → ℕ → Type 0
Agree u mask a b = (i : ℕ) → i < u → on mask i ≡ true → on a i ≡ on b i
