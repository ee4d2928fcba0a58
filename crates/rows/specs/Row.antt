-- Rows of a table over n inputs (clause 5.5), as definitions: a row is a number from 0 to 2 ^ n - 1, and the first input is its
-- highest digit. Assumes nothing.
use Rattle.std.specs.Prelude.{Bool, List, [], ◌∷◌, ℕ, zero, suc, ◌+◌, ◌-◌, ◌*◌, ◌^◌, length}
use Rattle.bits.specs.Logic.{bit}
use Rattle.bits.specs.Digit.{on}

-- the row of a list of input values, first input first
unfoldable pub row_of : List Bool → ℕ
row_of [] = 0
row_of (b ∷ bs) = bit b * 2 ^ length bs + row_of bs

-- the value of input i, counted from 0, of n inputs on row r
unfoldable pub input_on : ℕ → ℕ → ℕ → Bool
input_on n r i = on r (n - 1 - i)

-- the values of all n inputs on row r, first input first
unfoldable pub values_of : ℕ → ℕ → List Bool
values_of zero r = []
values_of (suc n) r = on r n ∷ values_of n r
