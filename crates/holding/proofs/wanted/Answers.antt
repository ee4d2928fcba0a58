use Prim.Native.Nat.{◌+◌, ◌*◌}
use native.Mathlib.Omega.{arith}
use Rattle.holding.specs.WantsLaws.{wanted_start, wanted_same, wanted_more}
use Rattle.holding.proofs.wanted.Goals as goal
use Rattle.holding.proofs.wanted.Goals.{then-dom-y-eq0, else-dom-y-eq0}

pub loop-y-init : goal.loop-y-init
loop-y-init c = let args = c.args in
    let pre = c.requires in
    wanted_start args.cl.now args.o args.mask args.dom.now args.own.now args.owns.now _ _ pre.7 pre.5 pre.8 pre.9

pub loop-y-preserved : goal.loop-y-preserved
loop-y-preserved c = let pre = c.requires in
    let args = c.args in
    let few = pre.1 in
    let o = pre.2 in
    let d = c.loop-y-test.true in
    let low = pre.0.low (args.o * 32 + c.loop-y.y) (omega arith) in
    let same = c.label-l.ensures in
    elim c.if-dom-y-eq0.branch [
      | then-dom-y-eq0 w ↦ wanted_more args.cl.now args.o args.mask args.dom.now args.own.now args.owns.now c.loop-y.y c.label-l.result w.spread.result w.more.result
          c.loop-y.wants c.loop-y.meet _ _ same (omega arith) w.if-dom-y-eq0.true (λ k i n. w.spread.ensures.whole n.0 k n.1 i n.2 n.3) w.more.ensures w.meet-is w.wants-is
          c.loop-y.invariant
      | else-dom-y-eq0 w ↦ wanted_same args.cl.now args.o args.mask args.dom.now args.own.now args.owns.now c.loop-y.y c.loop-y.wants c.loop-y.meet _ _ w.wants-is w.meet-is
          c.loop-y.invariant
    ]
