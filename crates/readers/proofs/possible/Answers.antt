use native.Mathlib.Omega.{arith}
use Rattle.readers.specs.NeedsLaws.{bounds_of}
use Rattle.readers.specs.AnswerLaws.{decided_crowded}
use Rattle.readers.proofs.possible.Goals as goal

pub returns-then-p-o : goal.returns-then-p-o
returns-then-p-o c = λ e kn val.
    let a = c.args in
    let p = c.requires in
    let bounds = bounds_of a.cl.now a.rows c.shared-sh.result a.v a.j _ _ _ _ c.bases-base.result p.3 c.shared-sh.ensures c.plan-p.ensures.0 c.bases-base.ensures in
    decided_crowded a.cl.now c.bases-base.result a.rows c.shared-sh.result a.v a.j _ _ _ _ p.1 p.3 c.shared-sh.ensures c.plan-p.ensures.0 bounds
    c.loop-o.o c.total-t.ensures.0 kn val a.rows c.loop-o-test.true
    (let e = c.total-t.ensures.1 in let h = c.if-p-o.true in omega arith)
