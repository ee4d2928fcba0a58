use mathlib.Core.Path.{sym, ◌∙◌}
use Prim.Native.Nat.{◌+◌, ◌*◌}
use native.Mathlib.Omega.{arith}
use Rattle.holding.specs.FullLaws.{crowd_same, crowd_more}
use Rattle.holding.proofs.classes_in.Goals as goal
use Rattle.holding.proofs.classes_in.Goals.{then-inside+then-not-in_set, then-inside+else-not-in_set, else-inside}

pub loop-y-preserved : goal.loop-y-preserved
loop-y-preserved c = let h = c.loop-y-test.true in
    let p = c.requires in
    let z = p.1 in
    let o = p.2 in
    let a = c.args in
    let low = p.0.low (a.o * 32 + c.loop-y.y) (omega arith) in
    elim c.if-inside.branch [
      | then-inside+then-not-in_set w ↦ let q = c.inside.ensures w.if-inside.true in
          let e = w.label-l.ensures in
          crowd_more a.cl.now a.codes.now a.o a.p a.b c.loop-y.y c.loop-y.seen c.loop-y.count
          w.label-l.result w.with-seen.result _ _ e (omega arith) q.0 q.1 (sym w.in_set.ensures ∙ w.if-not-in_set.true) w.with-seen.ensures w.seen-is w.count-is c.loop-y.invariant
      | then-inside+else-not-in_set w ↦ crowd_same a.cl.now a.codes.now a.o a.p a.b c.loop-y.y c.loop-y.seen c.loop-y.count _ _ w.seen-is w.count-is c.loop-y.invariant
      | else-inside w ↦ crowd_same a.cl.now a.codes.now a.o a.p a.b c.loop-y.y c.loop-y.seen c.loop-y.count _ _ w.seen-is w.count-is c.loop-y.invariant
    ]
