use Rattle.bits.specs.Digit.{on, digit}
use lib.Bits.{and_mask}
use lib.Dec.{eqb}
use Prim.Native.Nat.{ℕ, ◌/◌, ◌^◌}
use mathlib.Core.Path.{ap}
use Rattle.cells.proofs.in_set.Goals as goal

pub returns : goal.returns
unfolding on digit
returns c = ap (λ (y : ℕ). eqb y 1) (and_mask (c.args.s / 2 ^ c.args.c) 1)
