use Rattle.std.proofs.Common.{refl, arith}
use Rattle.network.specs.ListedLaws.{listed_none, listed_missing, listed_more, listed_all}
use Rattle.network.proofs.names_at.Goals as goal

pub loop-v-init : goal.loop-v-init
loop-v-init c = let a = c.args in
    listed_none a.s.now a.ns.now a.first a.c.at c.requires

pub returns-in_err-next : goal.returns-in_err-next
returns-in_err-next c =
    rw c.from_residual.ensures (listed_missing c.loop-v.invariant (omega arith) c.in_err-next.ensures)

pub loop-v-preserved : goal.loop-v-preserved
loop-v-preserved c = listed_more c.loop-v.invariant (omega arith) c.in_ok-next.ensures

pub returns : goal.returns
returns c = listed_all c.loop-v.invariant _ refl (omega arith)
