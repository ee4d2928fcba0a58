use mathlib.Core.Path.{◌≡◌, sym, ◌∙◌, subst}
use Prim.Native.Nat.{ℕ}
use native.Mathlib.Omega.{arith}
use Rattle.holding.specs.Joined.{Spreading}
use Rattle.holding.specs.JoinedLaws.{spreading_start, spreading_same, spreading_more, spreading_end}
use Rattle.holding.proofs.spread.Goals as goal
use Rattle.holding.proofs.spread.Goals.{then-not-in_set, else-not-in_set}

pub loop-i-init : goal.loop-i-init
loop-i-init c = spreading_start c.args.mask c.args.d

pub loop-i-preserved : goal.loop-i-preserved
loop-i-preserved c = let args = c.args in
    elim c.if-not-in_set.branch [
      | then-not-in_set w ↦ spreading_more args.mask args.d c.loop-i.i c.loop-i.r _ w.joined-r.result c.loop-i-test.true
          (sym c.in_set.ensures ∙ w.if-not-in_set.true) w.joined-r.ensures w.r-is c.loop-i.invariant
      | else-not-in_set w ↦ spreading_same args.mask args.d c.loop-i.i c.loop-i.r _ (sym c.in_set.ensures ∙ w.if-not-in_set.false) w.r-is c.loop-i.invariant
    ]

pub returns : goal.returns
returns c = let args = c.args in
    let h = c.loop-i-test.false in
    let z = c.loop-i.auto.i-end in
    let e : c.loop-i.i ≡ 6 = omega arith in
    spreading_end args.mask args.d c.loop-i.r c.ranges.mask.fits (subst (λ (n : ℕ). Spreading args.mask args.d n c.loop-i.r) e c.loop-i.invariant)
