use Rattle.std.proofs.Common.{arith, rules}
use Rattle.limits.specs.Limits.{max_inputs}
use Rattle.classes.proofs.Placing.{small-zeros, placed_none, placed_bound, placed_free, placed_all}
use Rattle.classes.proofs.digits.Goals as goal

pub loop-i-init : goal.loop-i-init
loop-i-init c = placed_none (search rules) (small-zeros max_inputs)

pub loop-i-preserved-in-Some : goal.loop-i-preserved-in-Some
loop-i-preserved-in-Some c = let at = rw c.in-Some.is at c.place.ensures in
    placed_bound c.loop-i.invariant c.requires.0 (omega arith) at.1 c.requires.1 at.0

pub loop-i-preserved : goal.loop-i-preserved
loop-i-preserved c = placed_free c.loop-i.invariant c.requires.0 (omega arith) (rw c.in_default.is at c.place.ensures) c.requires.1 (omega arith)

pub returns : goal.returns
returns c = placed_all c.loop-i.invariant (omega arith)
