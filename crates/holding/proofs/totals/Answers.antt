use mathlib.Core.Path.{refl, ap, ◌∙◌}
use Prim.Native.Nat.{max}
use native.Mathlib.Omega.{arith}
use lib.ListN.{get_or}
use Rattle.holding.specs.WantsLaws.{totals_start, totals_more}
use Rattle.cells.specs.ListLaws.{zeros_are}
use Rattle.holding.proofs.totals.Goals as goal

pub loop-l-init : goal.loop-l-init
loop-l-init c = let a = c.args in totals_start a.cl.now a.owns.now a.base.now a.o _ refl (λ p h. zeros_are 32 p)

pub loop-l-preserved : goal.loop-l-preserved
loop-l-preserved c = let a = c.args in
    let small = c.max.type_inv in
    totals_more a.cl.now a.owns.now a.base.now a.o c.loop-l.l c.loop-l.t c.class_part-p.result c.max.result
    c.class_part-p.ensures.0 c.class_part-p.ensures.1
    (c.max.ensures ∙ ap (max (get_or a.owns.now c.loop-l.l 0)) c.label.ensures) (omega arith) c.loop-l.invariant
