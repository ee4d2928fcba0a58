use lib.ListN.{get_or}
use Prim.Native.Nat.{max}
use mathlib.Core.Path.{refl, ap, ◌∙◌}
use Rattle.holding.specs.ReachLaws.{lacks_start, lacks_more}
use Rattle.holding.proofs.lacks.Goals as goal

pub loop-l-init : goal.loop-l-init
loop-l-init c = let a = c.args in lacks_start a.cl.now a.owns.now a.wants.now a.base.now a.o a.p

pub loop-l-preserved : goal.loop-l-preserved
loop-l-preserved c = let a = c.args in
    lacks_more a.cl.now a.owns.now a.wants.now a.base.now a.o a.p c.loop-l.l c.class_part-q.result c.max-n.result
    c.loop-l.total c.loop-l.news _ _ c.counted.result c.counted-in-loop-l.result c.class_part-q.ensures.0
    (c.max-n.ensures ∙ ap (max (get_or a.wants.now c.loop-l.l 0)) c.label.ensures) c.counted.ensures.0 c.counted.ensures.1 c.counted-in-loop-l.ensures.0
    c.counted-in-loop-l.ensures.1 refl refl c.loop-l.invariant
