use Rattle.std.proofs.Common.{arith}
use Rattle.network.specs.TablesLaws.{skipping_none, skipping_missing, skipping_more, skipping_all}
use Rattle.network.proofs.digits_at.Goals as goal

pub loop-init : goal.loop-init
loop-init c = skipping_none c.args.s.now c.args.n c.args.c c.requires

pub returns-in_err-next : goal.returns-in_err-next
returns-in_err-next c =
    rw c.from_residual.ensures (skipping_missing c.loop.invariant (omega arith) c.in_err-next.ensures)

pub loop-preserved : goal.loop-preserved
loop-preserved c = skipping_more c.loop.invariant (omega arith) c.in_ok-next.ensures

pub returns : goal.returns
returns c = skipping_all c.loop.invariant (omega arith)
