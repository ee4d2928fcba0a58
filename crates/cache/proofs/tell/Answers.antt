use Rattle.problem.specs.declared.Answer.{Answer}
use Rattle.problem.specs.Answer.{is_found, is_unsure, found_codes}
use Rattle.problem.specs.Problem.{item}
use Rattle.coding.specs.Limit.{Sure}
use Rattle.subproblems.specs.Subproblem.{Barred, Settled}
use Rattle.bits.specs.LogicLaws.{true_false}
use Rattle.std.proofs.Common.{◌≡◌, false, not, List, ℕ, refl, sym, ◌∙◌, subst, eqb-true}
use borrow.Author.Tests.{not-false}
use Rattle.cache.proofs.tell.Goals as goal
use Rattle.cache.proofs.tell.Goals.{in-Nothing, in_default}

pub is_bad-requires : goal.is_bad-requires
is_bad-requires c = c.requires.3.long

pub returns-then-is_bad : goal.returns-then-is_bad
returns-then-is_bad c = let a = c.args in
    let p = a.q in
    let s = c.requires.3 in
    let t = c.if-is_bad.true in
    let bad = c.is_bad.ensures a.cl.now a.given.now p.kn p.val p.vertices s t in
    (s, λ e. c.question-asks.ensures.barred a.cl.now a.given.now p.kn p.val p.vertices (λ n. eqb-true p.kn 0 (not-false _ n)) bad)

pub holds-requires : goal.holds-requires
holds-requires c = (c.requires.3.long, c.place.ensures)

pub returns-then-holds : goal.returns-then-holds
returns-then-holds c = (c.requires.3, λ e. absurd (true_false e))

pub ask-a-requires : goal.ask-a-requires
ask-a-requires c = let p = c.requires in (p.0, p.1, p.2)

pub store-requires : goal.store-requires
store-requires c = c.requires.3.long

pub returns : goal.returns
returns c =
    let a = c.args in
    let p = a.q in
    let asks = c.question-asks.result in
    let Says : Answer (List ℕ) → Type 0 = λ s. Sure p.limit (is_unsure s) (Settled a.cl.now a.given.now p.kn p.val p.vertices a.asked (item asks) (is_found s) (found_codes s)) in
    let bad : not c.match-matches.matches ≡ false → Barred a.cl.now a.given.now p.kn p.val p.vertices a.asked (item asks) = λ e. elim c.match-matches.branch [
      | in-Nothing w ↦ (subst Says w.in-Nothing.is c.ask-a.ensures).sure refl
      | in_default w ↦ absurd (true_false (sym (not-false _ e) ∙ w.matches-is))
    ] in (
      c.store.ensures a.cl.now a.given.now p.kn p.val p.vertices bad c.requires.3,
      λ e. c.question-asks.ensures.barred a.cl.now a.given.now p.kn p.val p.vertices (λ n. eqb-true p.kn 0 (not-false _ n)) (bad e),
    )
