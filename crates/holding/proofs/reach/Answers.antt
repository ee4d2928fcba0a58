use Rattle.holding.specs.Wants.{need}
use Rattle.problem.specs.Problem.{part_at}
use lib.ListN.{get_or}
use native.Mathlib.Omega.{arith}
use Prim.Native.Nat.{ℕ, ◌≤◌}
use mathlib.Core.Path.{◌≡◌, subst}
use Rattle.holding.specs.ReachLaws.{reached_same, reached_more}
use Rattle.holding.proofs.reach.Goals as goal
use Rattle.holding.proofs.reach.Goals.{then-codes-y-ge-NO_CODE+then-lacking, then-codes-y-ge-NO_CODE+else-lacking, else-codes-y-ge-NO_CODE}

pub loop-y-preserved : goal.loop-y-preserved
loop-y-preserved c = let h = c.loop-y-test.true in
    let z = c.requires.2 in
    let a = c.args in
    elim c.if-codes-y-ge-NO_CODE.branch [
      | then-codes-y-ge-NO_CODE+then-lacking w ↦ reached_more a.cl.now a.base.now a.n.owns a.n.wants a.codes.now a.dom.now a.own.now a.t.number a.p c.loop-y.y
          w.label-l.result w.minus-r.result c.loop-y.r _ w.label-l.ensures w.minus-r.ensures w.r-is c.loop-y.invariant
      | then-codes-y-ge-NO_CODE+else-lacking w ↦ reached_same a.cl.now a.base.now a.n.owns a.n.wants a.codes.now a.dom.now a.own.now a.t.number a.p c.loop-y.y c.loop-y.r _
          (λ u i. subst (λ (k : ℕ). part_at a.cl.now a.t.number k ≡ a.p → need a.n.wants a.base.now a.t.number k ≤ get_or a.n.owns k 0)
          w.label-l.ensures (w.lacking.ensures w.if-lacking.false) i)
          w.r-is c.loop-y.invariant
      | else-codes-y-ge-NO_CODE w ↦ reached_same a.cl.now a.base.now a.n.owns a.n.wants a.codes.now a.dom.now a.own.now a.t.number a.p c.loop-y.y c.loop-y.r _
          (λ u i. let k = w.if-codes-y-ge-NO_CODE.false in absurd (omega arith)) w.r-is c.loop-y.invariant
    ]
