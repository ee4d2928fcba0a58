-- Where a carry goes when a number is counted one further. Assumes nothing.
use Rattle.std.specs.Prelude.{Bool, true, ℕ, zero, suc}
use Rattle.bits.specs.Logic.{andb}
use Rattle.bits.specs.Digit.{on}

-- whether the k lowest digits of n are all 1, so that a carry reaches digit k
unfoldable pub full : ℕ → ℕ → Bool
full n zero = true
full n (suc k) = andb (on n k) (full n k)
