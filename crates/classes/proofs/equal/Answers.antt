use Rattle.classes.proofs.Comparing.{agreeing_none, agreeing_more, agreeing_all, differing, read_differ, read_agree}
use Rattle.std.proofs.Common.{arith}
use Rattle.classes.proofs.equal.Goals as goal

pub loop-f-init : goal.loop-f-init
loop-f-init c = agreeing_none

pub returns-then-row : goal.returns-then-row
returns-then-row c = differing c.loop-f.invariant (omega arith)
    (read_differ c.args.t.now c.args.vertex.now c.args.free.now
    c.args.x.0 c.args.y.0 c.loop-f.f
    c.row.ensures c.row-in-loop-f.ensures c.if-row.true)

pub loop-f-preserved : goal.loop-f-preserved
loop-f-preserved c = agreeing_more c.loop-f.invariant (omega arith)
    (read_agree c.args.t.now c.args.vertex.now c.args.free.now
    c.args.x.0 c.args.y.0 c.loop-f.f
    c.row.ensures c.row-in-loop-f.ensures c.if-row.false)

pub returns : goal.returns
returns c = agreeing_all c.loop-f.invariant (omega arith)
