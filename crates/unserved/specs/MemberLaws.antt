-- The labels and budgets of the members of a set: the cells that serve them are those that serve the set, since member j's labels and
-- budget are those of the output that it is. Assumes nothing.
use Rattle.std.proofs.Math.Path.{sym, subst}
use Rattle.std.proofs.Common.{ap, ◌∙◌, arith}
use Rattle.std.specs.Prelude.{List, ℕ, ◌≤◌}
use Rattle.cells.specs.Core.{Cell, Serves}
use Rattle.problem.specs.Problem.{label_at, item}
use Rattle.relation.specs.Relation.{Conflict}
use Rattle.sorting.specs.Order.{Indices}
use Rattle.dominance.specs.Dominance.{Picked, Taken}
use Rattle.dominance.specs.DominanceLaws.{taken_at}
use Rattle.subsets.specs.SubsetLaws.{size-most}
use Rattle.subsets.specs.Listed.{Lists}
use Rattle.unserved.specs.Unserved.{ServesSet}
use Rattle.unserved.specs.Asking.{OfMembers}

pub lists_indices : (m s n : ℕ) (from : List ℕ) → Lists m s n from → Indices from
lists_indices m s n from l = record { long = l.long; small = l.small }

pub lists_most : (m s n : ℕ) (from : List ℕ) → m ≤ 8 → Lists m s n from → n ≤ 8
lists_most m s n from h l = let e = l.count in let b = size-most m s in omega arith

pub of_members : (cl budgets : List ℕ) (v m s n : ℕ) (from labels taken : List ℕ) → v ≤ 32 → m ≤ 8
    → Lists m s n from → Taken cl from 256 labels → Picked budgets from 8 taken → OfMembers cl budgets v m s n labels taken
of_members cl budgets v m s n from labels taken few outs l t p = record {
  count = l.count;
  label = λ j x h b. let z = most in taken_at cl from labels t j x (omega arith) (omega arith) ∙ ap (λ (o : ℕ). label_at cl o x) (l.each j h);
  budget = λ j h. let z = most in p.done j (omega arith) ∙ ap (item budgets) (l.each j h);
}
  where
    most : n ≤ 8
    most = lists_most m s n from outs l

module _ (cl budgets : List ℕ) (v m s n : ℕ) (labels taken : List ℕ) (w : OfMembers cl budgets v m s n labels taken) where
  pub members_serve_set : (k : List Cell) → Serves v n (Conflict labels) (item taken) k → ServesSet cl budgets v m s k
  unfolding Conflict
  members_serve_set k c = record {
    tells = λ j x y h a b d. let z = w.count in
        c.tells j x y (omega arith) a b (λ e. d (sym (w.label j x (omega arith) a) ∙ e ∙ w.label j y (omega arith) b));
    within = λ j h. let z = w.count in subst (◌≤◌ _) (w.budget j (omega arith)) (c.within j (omega arith));
  }

  pub set_serves_members : (k : List Cell) → ServesSet cl budgets v m s k → Serves v n (Conflict labels) (item taken) k
  unfolding Conflict
  set_serves_members k c = record {
    tells = λ j x y h a b d. let z = w.count in c.tells j x y (omega arith) a b (λ e. d (w.label j x h a ∙ e ∙ sym (w.label j y h b)));
    within = λ j h. let z = w.count in subst (◌≤◌ _) (sym (w.budget j h)) (c.within j (omega arith));
  }
