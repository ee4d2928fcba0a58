-- What the code finds of a sheet is what its design asks of the search: labels are local classes, since these are few enough to be
-- their own remainders, and budgets are widths; all are as small as the search wants. Assumes nothing.
use Rattle.std.specs.Prelude.{◌≡◌, List, ℕ, ◌+◌, ◌*◌, ◌/◌, ◌%◌, ◌≤◌, ◌<◌, get_or}
use Rattle.std.proofs.Common.{sym, ◌∙◌}
use Rattle.std.proofs.Math.Path.{ap, ap₂, subst}
use native.Mathlib.Omega.{arith}
use Rattle.std.proofs.Math.Decide.{dec_lt}
use Rattle.limits.specs.Limits.{max_bound, max_outputs, max_vertices, max_classes}
use Rattle.sheet.specs.Examine.{Design}
use Rattle.sheet.specs.Known.{Holds}
use Rattle.sheet.specs.declared.Sheet.{Sheet}
use Rattle.classes.specs.Columns.{vertex_count}
use Rattle.classes.specs.Classes.{local_class, global_count}
use Rattle.classes.specs.Width.{budget}
use Rattle.classes.specs.Answer.{ClassesAre, local_at, locals_at}
use Rattle.classes.specs.VertexLaws.{local_below, local_most}
use Rattle.classes.specs.declared.Classes.{Classes}
use Rattle.mapper.specs.Posed.{Given, Ready, PosedAs}
use Rattle.mapper.specs.SearchInput.{LabelsAre, BudgetsAre, labels_given}

labels_low : (ls : List _) (cl : List ℕ) → LabelsAre ls cl → (i : ℕ) → get_or cl i 0 < max_vertices
labels_low ls cl h i =
    elim (dec_lt i labels_given) as (λ _. get_or cl i 0 < max_vertices) [
      | yes l ↦ (let e = h.given.done i l in omega arith)
      | no n ↦ (let e = h.others i (past i n) in omega arith)
    ]
  where
    past : (i : ℕ) → (i < labels_given → ⊥) → labels_given ≤ i
    past i n = omega arith

-- the sheet k holds the design d, whose classes are c
module _ (d : Design) (k : Sheet) (h : Holds d k) (c : Classes) (q : ClassesAre d c) where
  pub budgets_ready : (k.outputs ≤ max_outputs) × ((o : ℕ) → o < k.outputs → get_or c.widths o 0 ≤ max_bound)
  budgets_ready = (
    h.outputs_few,
    λ o l. (let w = q.widths o (subst (λ (n : ℕ). o < n) h.outputs_counted l) in let z = w.is in let y = w.few in omega arith),
  )

  given : (cl bs : List ℕ)
      → LabelsAre c.locals cl
      → BudgetsAre c.widths k.outputs bs
      → Given d cl bs c.shape.vertices k.outputs k.limit
  unfolding budget
  given cl bs lh bh =
      let m = h.outputs_counted in
      let mf = h.outputs_few in
      record {
        vertices = q.shaped.vertices;
        outputs = m;
        within = h.limit_is;
        labels = λ o y i l.
            (let vf : vertex_count d.bound ≤ max_vertices = subst (λ (n : ℕ). n ≤ max_vertices) q.shaped.vertices q.shaped.few_vertices in
            let a = lh.given.done (o * max_vertices + y) (omega arith) in
            let e1 : (o * max_vertices + y) / max_vertices ≡ o = omega arith in
            let e2 : (o * max_vertices + y) % max_vertices ≡ y = omega arith in
            let w = (q.locals o i).classes y l in
            let lb = local_below d d.bound o y l in
            let lm = local_most d d.bound o in
            a ∙ ap₂ (λ (i j : ℕ). local_at (locals_at c.locals i).classes j % max_vertices) e1 e2
            ∙ ap (λ (n : ℕ). n % max_vertices) w ∙ small (local_class d d.bound o y) (omega arith));
        budgeted = λ o i. (let w = q.widths o i in bh.done o (subst (λ (n : ℕ). o < n) (sym m) i) ∙ w.is);
      }
    where
      small : (n : ℕ) → n < max_vertices → n % max_vertices ≡ n
      small n l = omega arith

  ready : (cl : List ℕ) → LabelsAre c.locals cl → Ready cl c.shape.vertices k.outputs k.limit
  ready cl l =
      let outputs = h.outputs_few in
      let small = h.limit_small in
      record {
        classes = record { long = l.given.long; low = λ i _. labels_low c.locals cl l i };
        few_vertices = q.shaped.few_vertices;
        few_outputs = omega arith;
        few_cells = omega arith;
      }

  pub poses : (cl bs : List ℕ)
      → c.globals.count ≤ max_classes
      → LabelsAre c.locals cl
      → BudgetsAre c.widths k.outputs bs
      → PosedAs d k (record { shape = c.shape; labels = cl; budgets = bs })
  poses cl bs few lh bh =
      record {
        few = subst (λ (n : ℕ). n ≤ max_classes) q.globals.counted few;
        shaped = q.shaped;
        given = given cl bs lh bh;
        ready = ready cl lh;
      }

  pub poses_none : max_classes < c.globals.count → max_classes < global_count d d.bound
  poses_none many = subst (λ (n : ℕ). max_classes < n) q.globals.counted many
