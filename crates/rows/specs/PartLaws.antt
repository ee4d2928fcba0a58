-- A number cut in two at digit n: which digits of the whole its lower part, x % 2 ^ n, and its upper part, x / 2 ^ n, have.
-- Assumes nothing.
use Rattle.std.specs.Prelude.{◌≡◌, ℕ, ◌+◌, ◌/◌, ◌%◌, ◌^◌, eqb}
use Rattle.std.proofs.Common.{ap, shr-shr}
use Rattle.bits.specs.Digit.{on, digit}

-- the digits of the upper part are the number's own, further up
pub on_high : (n x k : ℕ) → on (x / 2 ^ n) k ≡ on x (n + k)
unfolding on digit
on_high n x k = ap (λ (y : ℕ). eqb (y % 2) 1) (shr-shr x n k)
