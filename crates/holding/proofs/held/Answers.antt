use Rattle.holding.specs.Held.{Held}
use Rattle.problem.specs.Problem.{item}
use lib.ListN.{get_or}
use native.Mathlib.Omega.{arith}
use Prim.Native.Nat.{ℕ, ◌<◌, ◌+◌, ◌*◌}
use mathlib.Core.Path.{◌≡◌, sym, ◌∙◌, subst}
use Rattle.holding.specs.HeldLaws.{held_start, at_skip, at_old, at_new}
use Rattle.holding.proofs.held.Goals as goal
use Rattle.holding.proofs.held.Goals.{then-c-lt-NO_CODE+then-not-in_set, then-c-lt-NO_CODE+else-not-in_set, else-c-lt-NO_CODE}

pub loop-y-init : goal.loop-y-init
loop-y-init c = let args = c.args in
    let pre = c.requires in
    λ mask b. held_start args.cl.now args.codes.now args.o mask _ _ pre.6 pre.7 pre.8 pre.9

pub loop-y-preserved : goal.loop-y-preserved
loop-y-preserved c = let pre = c.requires in
    let args = c.args in
    let few = pre.2 in
    let outs = pre.3 in
    let o = pre.4 in
    let d = c.loop-y-test.true in
    let low = pre.0.low (args.o * 32 + c.loop-y.y) (omega arith) in
    λ mask b. elim c.if-c-lt-NO_CODE.branch [
      | then-c-lt-NO_CODE+then-not-in_set w ↦ at_new args.cl.now args.codes.now args.o mask c.loop-y.y c.loop-y.own c.loop-y.owns _ _ w.label-l.result _ w.label-l.ensures low
          w.if-c-lt-NO_CODE.true (sym w.if-not-in_set.true ∙ w.in_set.ensures) (b (get_or args.codes.now c.loop-y.y 0) w.if-c-lt-NO_CODE.true) w.own-is w.owns-is
          (c.loop-y.invariant mask b)
      | then-c-lt-NO_CODE+else-not-in_set w ↦ at_old args.cl.now args.codes.now args.o mask c.loop-y.y c.loop-y.own c.loop-y.owns _ _ w.label-l.result w.label-l.ensures low
          w.if-c-lt-NO_CODE.true (sym w.if-not-in_set.false ∙ w.in_set.ensures) w.own-is w.owns-is (c.loop-y.invariant mask b)
      | else-c-lt-NO_CODE w ↦ at_skip args.cl.now args.codes.now args.o mask c.loop-y.y c.loop-y.own c.loop-y.owns _ _ w.if-c-lt-NO_CODE.false w.own-is w.owns-is
          (c.loop-y.invariant mask b)
    ]

pub returns : goal.returns
returns c = let args = c.args in
    let pre = c.requires in
    let h = c.loop-y-test.false in
    let z = c.loop-y.auto.y-end in
    let e : c.loop-y.y ≡ args.v = omega arith in
    subst (λ (n : ℕ). Held args.cl.now args.codes.now args.o (item args.ms args.o) n c.loop-y.own c.loop-y.owns) e
    (c.loop-y.invariant (item args.ms args.o) (λ k h. pre.1.each args.o k pre.4 h))

pub overflow_add-owns : goal.overflow_add-owns
overflow_add-owns c = let args = c.args in
    let few = c.requires.2 in
    let outs = c.requires.3 in
    let o = c.requires.4 in
    let d = c.loop-y-test.true in
    let low = c.requires.0.low (args.o * 32 + c.loop-y.y) (omega arith) in
    let same = c.label-l.ensures in
    let s = c.loop-y.invariant (item args.ms args.o) (λ k h. c.requires.1.each args.o k o h) in
    let class : c.label-l.result < 32 = omega arith in
    let less = s.less c.label-l.result class in
    omega arith
