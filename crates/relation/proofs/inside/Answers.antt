use Rattle.std.proofs.Common.{ℕ, ◌<◌, refl, rules}
use borrow.Author.Tests.{tests}
use Rattle.relation.specs.Relation.{Conflict}
use Rattle.relation.specs.RelationLaws.{inside_all}
use Rattle.relation.specs.RangeLaws.{all_below}
use Rattle.relation.proofs.inside.Goals as goal

pub returns : goal.returns
returns c = let a = c.args in
    let all = all_below a.v _ _ c.all.result (λ x. (y : ℕ) → y < x → Conflict a.cl.now a.o x y → Conflict a.cl.now a.q x y) (λ x. Unit {0}) c.all.ensures.ran refl
    (λ x q k. search (rules, tests)) (λ x q k. tt) in λ e. inside_all a.cl.now a.o a.q a.v (all.0 e)
