use Rattle.std.proofs.Common.{◌≡◌, refl, arith}
use Rattle.platext.specs.GatheringLaws.{gathering_more, gathering_bad, gathering_all}
use Rattle.platext.proofs.names_of.Goals as goal

pub returns-in_err-v : goal.returns-in_err-v
returns-in_err-v c = rw c.from_residual.ensures (gathering_bad _ _ _ _ _ _ c.loop-count.invariant c.loop-count-test.true c.in_err-v.ensures)

pub loop-count-preserved : goal.loop-count-preserved
loop-count-preserved c =
    gathering_more _ _ _ _ _ _ c.loop-count.invariant c.in_ok-v.v c.in_ok-v.next _ c.loop-count-test.true c.in_ok-v.ensures c.keep.ensures

pub returns : goal.returns
returns c =
    let a = c.args in
    let i = c.loop-count in
    let all : i.count ≡ a.n = omega (arith, i.auto.count-end, c.loop-count-test.false) in
    gathering_all a.l.now a.n a.start.at i.c.at (record { next = i.c; count = a.n; names = i.names }) (rw all at i.invariant) (omega arith) refl
