use Rattle.std.proofs.Common.{subst, List, ℕ, arith}
use Rattle.picking.specs.Picked.{Picked}
use Rattle.picking.specs.Best.{FirstRows}
use Rattle.picking.specs.PickedLaws.{picked_of}
use Rattle.picking.proofs.first_rows.Goals as goal

pub returns : goal.returns
returns c = let a = c.args in
    let h = c.loop-o-test.false in
    let rows = c.loop-o.invariant.1 in
    let all : FirstRows a.cl.now c.widened-tables.result a.budgets a.v a.u a.m c.loop-o.r = record { long = rows.long; done = λ o k. rows.done o (omega arith) } in
    subst (λ (codes : List ℕ). Picked a.cl.now a.budgets a.v a.m a.u codes c.loop-o.r) c.widened-tables.ensures
    (picked_of a.cl.now c.widened-tables.result a.budgets a.v a.m a.u c.loop-o.r all)
