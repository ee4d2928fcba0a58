use Rattle.std.proofs.Common.{arith}
use Rattle.dominance.specs.DominanceLaws.{choosing_all}
use Rattle.dominance.proofs.chosen.Goals as goal

pub returns : goal.returns
returns c = let a = c.args in
    let b = c.requires.2 in
    choosing_all a.cl.now a.budgets a.v a.m c.falling-order.result c.loop-i.i c.loop-i.n c.loop-i.from c.loop-i.by c.loop-i-test.false (omega arith) c.falling-order.ensures.0 c.loop-i.invariant
