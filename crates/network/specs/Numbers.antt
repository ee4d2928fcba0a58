-- A set of numbers held as a mask: its numbers are the digits that are 1, in rising order. Assumes nothing.
use Rattle.std.specs.Prelude.{List, [], ◌∷◌, ◌++◌, ℕ, zero, suc}
use Rattle.bits.specs.Logic.{pick}
use Rattle.bits.specs.Digit.{on}

-- the numbers below u whose digit of m is 1
unfoldable pub numbers_of : ℕ → ℕ → List ℕ
numbers_of zero m = []
numbers_of (suc u) m = numbers_of u m ++ pick (on m u) (u ∷ []) []
