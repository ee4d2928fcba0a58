use Rattle.problem.specs.Answer.{is_found, is_unsure}
use Rattle.coding.specs.Limit.{Sure}
use Rattle.coding.specs.LimitLaws.{sure_now}
use Rattle.subproblems.specs.Subproblem.{Barred, Settled}
use Rattle.problem.specs.Problem.{item}
use Rattle.std.proofs.Common.{false, ℕ, refl, sym, subst}
use Rattle.bits.specs.LogicLaws.{true_false}
use borrow.Author.Tests.{not-true}
use Rattle.readingsets.specs.Answered.{core_codes}
use Rattle.readingsets.proofs.finish.Goals as goal

pub returns-then-not-s : goal.returns-then-not-s
returns-then-not-s c = let a = c.args in
    let p = a.p in
    let s = c.settle_smaller-s.ensures in
    let B : ℕ → Type 0 = λ d. Barred a.cl.now a.given.now p.kn p.val p.vertices d (item a.rows) in
    (λ e. absurd (true_false (sym e)), sure_now p.last false _ refl (subst B c.first_outputs-all.ensures (s.1 (not-true _ c.if-not-s.true))), s.0)

pub returns : goal.returns
returns c = let a = c.args in
    let p = a.p in
    let r = c.ask_all.result.answer in
    let S : ℕ → Type 0 = λ d. Sure p.last (is_unsure r) (Settled a.cl.now a.given.now p.kn p.val p.vertices d (item a.rows) (is_found r) (core_codes r)) in
    (c.ask_all.ensures.0, subst S c.first_outputs-all.ensures c.ask_all.ensures.1, c.ask_all.ensures.2)
