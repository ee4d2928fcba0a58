use Rattle.holding.specs.ReachLaws.{left_more, left_end}
use borrow.Author.Tests.{ltb-true}
use Rattle.holding.proofs.fewer_blocks.Goals as goal

pub loop-rest-preserved : goal.loop-rest-preserved
loop-rest-preserved c = λ mask b.
    let d = c.args.d in
    left_more mask d c.loop-rest.rest c.loop-rest.k c.lowest-c.result _ c.without.result c.minus-rest.result
    (b c.lowest-c.result c.lowest-c.ensures.0) c.without.ensures c.minus-rest.ensures (c.loop-rest.invariant mask b)

pub returns : goal.returns
returns c = λ e mask b.
    let a = c.args in
    left_end mask a.d c.loop-rest.rest c.loop-rest.k a.n c.loop-rest-test.false (ltb-true _ _ e) (c.loop-rest.invariant mask b)
