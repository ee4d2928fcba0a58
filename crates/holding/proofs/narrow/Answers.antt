use Rattle.holding.specs.Narrow.{Stays}
use native.Mathlib.Omega.{arith}
use mathlib.Core.Path.{sym, ◌∙◌}
use Rattle.holding.specs.NarrowLaws.{narrowed_same, keep_more}
use Rattle.holding.proofs.narrow.Goals as goal
use Rattle.holding.proofs.narrow.Goals.{then-codes-y-ge-NO_CODE+then-in_set, then-codes-y-ge-NO_CODE+else-in_set, else-codes-y-ge-NO_CODE}

pub loop-y-preserved : goal.loop-y-preserved
loop-y-preserved c = let h = c.loop-y-test.true in
    let z = c.requires.2 in
    let a = c.args in
    let P = Stays a.cl.now a.base.now a.t.number a.tight a.own.now a.meet.now a.n.owns a.n.wants in
    elim c.if-codes-y-ge-NO_CODE.branch [
      | then-codes-y-ge-NO_CODE+then-in_set w ↦ keep_more a.cl.now a.base.now a.t.number a.tight c.loop-y.y w.class_part.result w.label-l.result w.label-need.result w.keep.result
          a.own.now a.meet.now a.n.owns a.n.wants a.dom.now c.loop-y.dom
          _ (omega arith) w.label-l.ensures w.class_part.ensures.0 (sym w.in_set.ensures ∙ w.if-in_set.true) w.label-need.ensures w.keep.ensures w.dom-is c.loop-y.invariant
      | then-codes-y-ge-NO_CODE+else-in_set w ↦ narrowed_same P a.dom.now c.loop-y.y c.loop-y.dom _ w.dom-is c.loop-y.invariant
      | else-codes-y-ge-NO_CODE w ↦ narrowed_same P a.dom.now c.loop-y.y c.loop-y.dom _ w.dom-is c.loop-y.invariant
    ]
