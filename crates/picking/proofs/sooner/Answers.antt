use Rattle.std.proofs.Common.{◌≡◌, sym, ap, ◌∙◌, arith}
use mathlib.Core.Bool.{beq}
use Rattle.bits.specs.LogicLaws.{true_false, beq_self}
use Rattle.bits.specs.Digit.{on}
use Rattle.picking.specs.SoonerLaws.{sooner_differ, sooner_same}
use borrow.Author.Tests.{not-true}
use Rattle.picking.proofs.sooner.Goals as goal

pub returns-then-a-in_set : goal.returns-then-a-in_set
returns-then-a-in_set c = let a = c.args in
    let d : on a.f c.loop-i.i ≡ on a.g c.loop-i.i → ⊥ =
    λ e. true_false (sym (beq_self c.in_set-a.result) ∙ ap (beq c.in_set-a.result) (c.in_set-a.ensures ∙ e ∙ sym c.in_set.ensures) ∙ not-true _ c.if-a-in_set.true) in
    c.in_set-a.ensures ∙ sooner_differ a.u a.f a.g c.loop-i.i c.loop-i-test.true c.loop-i.invariant d

pub returns : goal.returns
returns c = let a = c.args in
    let h = c.loop-i-test.false in
    sooner_same a.u a.f a.g (λ j k. c.loop-i.invariant j (omega arith))
