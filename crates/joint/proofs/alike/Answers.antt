use Rattle.std.proofs.Common.{◌≡◌, ℕ, ◌<◌, Bool, length, refl, sym, ◌∙◌, subst, arith, rules}
use Rattle.std.specs.Bool.{MatchBool}
use Rattle.std.specs.List.{AllWithin, HoldsAt, range_with_len}
use Rattle.std.proofs.lemmas.Iterator.{cases_from_all, YieldsList-from_range}
use borrow.Author.Tests.{tests}
use Rattle.problem.specs.Problem.{label_at}
use Rattle.joint.specs.DigitsLaws.{known_equal}
use Rattle.joint.specs.MergeLaws.{labels_alike}
use Rattle.joint.proofs.alike.Goals as goal

pub returns-then-all : goal.returns-then-all
returns-then-all c = let a = c.args in
    let Same : ℕ → Type 0 = λ o. label_at a.cl.now o a.x.0 ≡ label_at a.cl.now o a.y.0 in
    let Any : ℕ → Type 0 = λ o. Unit {0} in
    let all = cases_from_all _ _ c.all.result Same Any c.all.ensures.ran (YieldsList-from_range 0 a.j a.j refl (omega arith)) (λ o q k. search (rules, tests)) (λ o q k. tt) in
    let numbers = range_with_len 0 a.j in
    λ e. (
      labels_alike a.cl.now a.j a.x.0 a.y.0 (subst (λ (b : Bool). MatchBool b (AllWithin Same numbers 0 (length numbers)) ((k : ℕ) × (k < length numbers) × HoldsAt Any numbers k)) c.if-all.true all),
      sym c.known_at.ensures ∙ known_equal _ _ (sym c.eq.ensures ∙ e) ∙ c.known_at-then-all.ensures,
    )
