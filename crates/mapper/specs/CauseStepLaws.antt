-- The cause, one law for each way out of the code: none where the sheet is refused by another question or everything is served, else
-- the first set of outputs that no cells serve, in the design's own numbers. Assumes nothing.
use Rattle.std.specs.Prelude.{◌≡◌, refl, ℕ, ◌≤◌, length, None, Ok, Err}
use Rattle.std.proofs.Common.{sym, subst, arith}
use Rattle.limits.specs.Limits.{max_cells}
use Rattle.sheet.specs.Examine as spec
use Rattle.sheet.specs.Examine.{Design}
use Rattle.sheet.specs.declared.Sheet.{Sheet}
use Rattle.sheet.specs.Known.{Holds}
use Rattle.design.specs.Answer.{ExaminedIs, Right}
use Rattle.design.specs.TableLaws.{refused-here, valid_here}
use Rattle.refusal.specs.declared.Refusal.{Refusal}
use Rattle.classes.specs.Proper.{Proper}
use Rattle.classes.specs.ProperLaws.{proper_of}
use Rattle.classes.specs.Columns.{vertex_count}
use Rattle.unserved.specs.Unserved.{Answered}
use Rattle.mapper.specs.Posed.{Given, Poses, Asked}
use Rattle.mapper.specs.declared.Posed.{Posed}
use Rattle.mapper.specs.Cause.{CauseAnswer, no_cause, outputs_of, CauseFor, too_many_classes, mapped, refused_by_8, CauseOf}
use Rattle.mapper.specs.CauseLaws.{every_served, every_unserved, first_cause}

pub cause_refused : (x : spec.Examined) (r : Refusal) → ExaminedIs x (Err r) → CauseOf x no_cause
cause_refused x r h = subst (λ (y : spec.Examined). CauseOf y no_cause) (refused-here x r h) refl

pub cause_classes : (x : spec.Examined) (k : Sheet) → ExaminedIs x (Ok k) → Right x
    → ((d : Design) → Holds d k → Proper d → Poses d k None)
    → CauseOf x no_cause
cause_classes x k h right poses =
    let v = valid_here x k h in
    let proper = proper_of v.design (right v.design (sym v.answered)) in
    subst (λ (y : spec.Examined). CauseOf y no_cause) v.answered (too_many_classes (poses v.design v.holds proper))

module _ {x : spec.Examined} {k : Sheet} {r : Posed} (s : Asked x k r) where
  abbrev d : Design
  d = s.design

  came_to : {a : CauseAnswer} → CauseFor d a → CauseOf x a
  came_to {a = a} c = subst (λ (y : spec.Examined). CauseOf y a) s.answered c

  given : Given d r.labels r.budgets (vertex_count d.bound) (length d.outputs) d.limit
  given =
      let g = s.poses.given in
      record { vertices = refl; outputs = refl; within = refl; labels = g.labels; budgeted = g.budgeted }

  few_cells : d.limit ≤ max_cells
  few_cells = let e = s.holds.limit_is in let small = s.poses.ready.few_cells in omega (arith, e, small)

  abbrev Found : ℕ → ℕ → ℕ → ℕ → Type 0
  Found n m limit t = Answered r.labels r.budgets n m limit t

  -- what was asked of the search, in the design's own numbers
  own : (t : ℕ) → Found r.shape.vertices k.outputs k.limit t → Found (vertex_count d.bound) (length d.outputs) d.limit t
  own t a =
      let g = s.poses.given in
      subst (λ (l : ℕ). Found (vertex_count d.bound) (length d.outputs) l t) g.within
      (subst (λ (m : ℕ). Found (vertex_count d.bound) m k.limit t) g.outputs
      (subst (λ (n : ℕ). Found n k.outputs k.limit t) g.vertices a))

  pub cause_mapped : (t : ℕ) → t ≡ 0 → Found r.shape.vertices k.outputs k.limit t → CauseOf x no_cause
  cause_mapped t e a =
      came_to (mapped s.poses.few (every_served d r.labels r.budgets given s.formed few_cells ((own t a).served e)))

  pub cause_outputs : (t : ℕ) → (t ≡ 0 → ⊥) → Found r.shape.vertices k.outputs k.limit t → CauseOf x (outputs_of t)
  cause_outputs t n a =
      let f = own t a in
      came_to
      (refused_by_8 t s.poses.few (every_unserved d r.labels r.budgets given s.formed few_cells (f.refused n))
      (first_cause d r.labels r.budgets given s.formed few_cells t (f.first n)))
