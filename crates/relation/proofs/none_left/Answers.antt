use Rattle.std.proofs.Common.{ℕ, ◌<◌, refl, rules, arith}
use borrow.Author.Tests.{tests}
use Rattle.relation.specs.Relation.{Left}
use Rattle.relation.specs.RelationLaws.{none_left_all}
use Rattle.relation.specs.RangeLaws.{all_below}
use Rattle.relation.proofs.none_left.Goals as goal

pub returns : goal.returns
returns c = let a = c.args in
    let all = all_below a.v _ _ c.all.result (λ x. (y : ℕ) → y < x → Left a.cl.now a.given.now a.g a.o x y → ⊥)
    (λ x. ((y : ℕ) → y < x → Left a.cl.now a.given.now a.g a.o x y → ⊥) → ⊥) c.all.ensures.ran refl
    (λ x q k. search (rules, tests)) (λ x q k. search (rules, tests)) in
    (λ e. none_left_all a.cl.now a.given.now a.g a.o a.v (all.0 e), λ e s. let k = all.1 e in k.2 (λ y h l. s.none k.0 y k.1 (omega arith) l))
