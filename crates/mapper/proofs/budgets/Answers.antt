use Rattle.std.proofs.Common.{refl, arith}
use Rattle.bits.specs.FilledLaws.{filled_none, filled_more, filled_fewer}
use Rattle.mapper.proofs.budgets.Goals as goal

pub loop-o-init : goal.loop-o-init
loop-o-init c = filled_none _ _ refl

pub overflow_cast-r : goal.overflow_cast-r
overflow_cast-r c = let small = c.requires.1 c.loop-o.o c.loop-o-test.true in
    omega arith

pub loop-o-preserved : goal.loop-o-preserved
loop-o-preserved c = let few = c.requires.0 in
    let below = c.loop-o-test.true in
    filled_more _ (omega arith) refl c.loop-o.invariant

pub returns : goal.returns
returns c = filled_fewer c.loop-o-test.false c.loop-o.invariant
