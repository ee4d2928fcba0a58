use mathlib.Core.Path.{ap}
use Prim.Native.Nat.{ℕ, ◌/◌, ◌^◌}
use lib.Dec.{eqb}
use lib.Bits.{and_mask}
use Rattle.bits.specs.Digit.{on, digit}
use Rattle.bits.proofs.has.Goals as goal

pub returns : goal.returns
unfolding on digit
returns c = ap (λ (y : ℕ). eqb y 1) (and_mask (c.args.x / 2 ^ c.args.k) 1)
