use Rattle.std.proofs.Common.{◌≡◌, List, ℕ, refl, sym, ◌∙◌, rules}
use borrow.Author.Tests.{tests}
use Rattle.relation.specs.Relation.{Conflict}
use Rattle.problem.specs.Problem.{label_at}
use Rattle.relation.specs.RelationLaws.{different_conflict, equal_no_conflict}
use Rattle.relation.specs.RangeLaws.{all_below}
use Rattle.relation.proofs.inside_at.Goals as goal

carried : (cl : List ℕ) (o q x y a b : ℕ) → a ≡ label_at cl o x → b ≡ label_at cl q x → (label_at cl q y ≡ b → label_at cl o y ≡ a) → Conflict cl o x y → Conflict cl q x y
carried cl o q x y a b ea eb w k = different_conflict cl q x y (λ e. equal_no_conflict cl o x y (sym ea ∙ sym (w (sym e ∙ sym eb))) k)

pub returns : goal.returns
returns c = let a = c.args in
    (all_below a.x _ _ c.all.result (λ y. Conflict a.cl.now a.o a.x y → Conflict a.cl.now a.q a.x y) (λ y. Unit {0}) c.all.ensures.ran refl
    (λ y q k. (search rules, search (rules, tests, carried a.cl.now a.o a.q a.x y c.label-a.result c.label-b.result c.label-a.ensures c.label-b.ensures))) (λ y q k. tt)).0
