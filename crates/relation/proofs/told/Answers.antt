use Rattle.std.proofs.Common.{◌≡◌, ℕ, List, refl, sym, ◌∙◌, rules}
use borrow.Author.Tests.{tests}
use lib.Bits.{bit_and}
use Rattle.problem.specs.Problem.{item, label_at}
use Rattle.relation.specs.Relation.{Left}
use Rattle.relation.specs.RelationLaws.{different_conflict, equal_not_left}
use Rattle.relation.specs.RangeLaws.{all_below}
use Rattle.relation.proofs.told.Goals as goal

-- where the values agree, the labels do too
not_left : (cl given : List ℕ) (g o x y value label : ℕ) → value ≡ bit_and (item given x) g → label ≡ label_at cl o x
    → (bit_and (item given y) g ≡ value → label_at cl o y ≡ label) → Left cl given g o x y → ⊥
not_left cl given g o x y value label v l same w = equal_not_left cl given g o x y (sym l ∙ sym (same (sym w.agree ∙ sym v))) w

-- the values agree, and the labels do not
left : (cl given : List ℕ) (g o x y value label : ℕ) → value ≡ bit_and (item given x) g → label ≡ label_at cl o x
    → bit_and (item given y) g ≡ value → (label_at cl o y ≡ label → ⊥) → Left cl given g o x y
left cl given g o x y value label v l same apart = record { conflict = different_conflict cl o x y (λ e. apart (sym e ∙ sym l)); agree = sym v ∙ sym same }

pub returns : goal.returns
returns c = let a = c.args in
    let l = c.label-label.ensures in
    let all = all_below a.x _ _ c.all.result (λ y. Left a.cl.now a.given.now a.g a.o a.x y → ⊥) (λ y. Left a.cl.now a.given.now a.g a.o a.x y) c.all.ensures.ran refl
    (λ y q k. (search rules, search (rules, tests, not_left a.cl.now a.given.now a.g a.o a.x y _ _ refl l)))
    (λ y q k. search (rules, tests, left a.cl.now a.given.now a.g a.o a.x y _ _ refl l)) in
    (all.0, λ e none. let k = all.1 e in none k.0 k.1 k.2)
