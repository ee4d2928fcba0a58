use Rattle.cells.specs.Sets.{With}
use lib.Bits.{bit_or}
use Prim.Native.Nat.{ℕ}
use mathlib.Core.Path.{subst, sym}
use Rattle.cells.specs.SetsLaws.{with_power}
use Rattle.cells.proofs.with.Goals as goal

pub returns : goal.returns
returns c = subst (λ (z : ℕ). With c.args.s c.args.k (bit_or c.args.s z)) (sym c.single.ensures) (with_power c.args.s c.args.k)
