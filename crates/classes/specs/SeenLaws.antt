-- What the code sees in the table of an output is what the definitions say: the value at each vertex and free row, so the
-- local classes, the width, and by the keys the global classes. Assumes nothing.
use Rattle.std.specs.Prelude.{◌≡◌, Bool, ◌&&◌, take}
use Rattle.std.proofs.Common.{sym, ◌∙◌, arith, eq-eqb, eqb-true}
use Rattle.std.proofs.Math.Path.{ap, ap₂, subst}
use mathlib.Core.List.{List}
use Prim.Native.Nat.{ℕ, suc, ◌+◌, ◌*◌, ◌≤◌, ◌<◌}
use Rattle.std.proofs.Math.Dec.{eqb}
use Rattle.std.proofs.Math.ListN.{length, get_or}
use Rattle.std.proofs.Math.Seq.{get_or-take, length-take-le}
use Rattle.bits.specs.LogicLaws.{and_left, and_right, and_both}
use Rattle.limits.specs.Limits.{max_bound, max_vertices, max_free_rows}
use Rattle.names.specs.Name.{Name}
use Rattle.sheet.specs.Examine.{Design}
use Rattle.sheet.specs.Known.{Holds, table_at}
use Rattle.sheet.specs.declared.Sheet.{Sheet}
use Rattle.rows.specs.Words.{row_on}
use Rattle.classes.specs.Cases.{same_test}
use Rattle.classes.specs.Columns.{join_row, vertex_count, free_count, value_at, alike, alike_upto, alike_in_all}
use Rattle.classes.specs.Classes.{class_count, class_of, local_count, local_class, global_count, global_class}
use Rattle.classes.specs.Width.{width_of, width}
use Rattle.classes.specs.Proper.{Proper}
use Rattle.classes.specs.Seen.{seen, same_column, alike_seen, same_key, ClassesBy}
use Rattle.classes.specs.Answer.{ShapeIs, local_at, global_at, LocalsAre, WidthIs, GlobalsAre}
use Rattle.classes.specs.ClassLaws.{Equivalence, count_most, class_below, class_test, count-agrees, class_agrees}
use Rattle.classes.specs.ColumnLaws.{alike_columns, same_columns, alike_equivalence}
use Rattle.classes.specs.JoinLaws.{join-small, join-sum}
use Rattle.classes.specs.declared.Shape.{Shape}
use Rattle.classes.specs.declared.Locals.{Locals}
use Rattle.classes.specs.declared.Globals.{Globals}

-- ---- classes by a relation that is another on the numbers below v
module _ {same like : ℕ → ℕ → Bool} {v w count : ℕ} {class : ℕ → ℕ} (c : ClassesBy same v count class) (e : v ≡ w)
    (h : (x y : ℕ) → x < w → y < w → same x y ≡ like x y) where
  classes_agree : ClassesBy like w count class
  classes_agree =
      let moved : ClassesBy same w count class = subst (λ (n : ℕ). ClassesBy same n count class) e c in
      record {
        counted = moved.counted ∙ count-agrees same like w h;
        classes = λ x l. moved.classes x l ∙ class_agrees same like w x h l;
      }

module _ {same : ℕ → ℕ → Bool} {v count : ℕ} {class : ℕ → ℕ} (c : ClassesBy same v count class) (few : v ≤ max_vertices) where
  pub classes_few : count ≤ max_vertices
  classes_few =
      let e : count ≡ class_count same v = c.counted in
      let m : class_count same v ≤ v = count_most same v in
      omega arith

  pub classes_low : Equivalence same → (x : ℕ) → x < v → class x < max_vertices
  classes_low q x l =
      let e : class x ≡ class_of same x = c.classes x l in
      let b : class_of same x < class_count same v = class_below same q v x l in
      let m : class_count same v ≤ v = count_most same v in
      omega arith

-- ---- one output
module _ (d : Design) (k : Sheet) (sh : Shape) (h : Holds d k) (p : Proper d) (s : ShapeIs d sh)
    (sv : length sh.vertex ≡ max_vertices) (sf : length sh.free ≡ max_free_rows) where
  part-vertex : length (take sh.vertices sh.vertex) ≡ vertex_count d.bound
  part-vertex =
      let few : sh.vertices ≤ max_vertices = s.few_vertices in
      length-take-le sh.vertices sh.vertex (omega arith) ∙ s.vertices

  part_free : length (take sh.frees sh.free) ≡ free_count d.inputs d.bound
  part_free =
      let few : sh.frees ≤ max_free_rows = s.few_free in
      length-take-le sh.frees sh.free (omega arith) ∙ s.free_rows

  value-seen : (o x y : ℕ) → o < k.outputs → x < vertex_count d.bound → y < free_count d.inputs d.bound
      → seen (table_at k.tables o) (take sh.vertices sh.vertex) (take sh.frees sh.free) x y ≡ value_at d d.bound o x y
  unfolding seen value_at
  value-seen o x y l a b =
      let ns : List Name = d.inputs in
      let bs : List Name = d.bound in
      let inx : x < sh.vertices = subst (λ (n : ℕ). x < n) (sym s.vertices) a in
      let iny : y < sh.frees = subst (λ (n : ℕ). y < n) (sym s.free_rows) b in
      let row : get_or (take sh.vertices sh.vertex) x 0 + get_or (take sh.frees sh.free) y 0 ≡ join_row ns bs x y
      = join-sum ns bs x y
      (get_or-take sh.vertices sh.vertex x 0 inx ∙ s.at_vertex x inx)
      (get_or-take sh.frees sh.free y 0 iny ∙ s.at_free y iny) in
      ap (row_on (table_at k.tables o)) row ∙ (h.tabled o l).each (join_row ns bs x y) (join-small ns bs x y p.few_inputs)

  alike-seen : (o x y : ℕ) → o < k.outputs → x < vertex_count d.bound → y < vertex_count d.bound
      → alike_seen (table_at k.tables o) (take sh.vertices sh.vertex) (take sh.frees sh.free) x y ≡ alike d d.bound o x y
  alike-seen o x y l a b =
      let f : ℕ → ℕ → Bool = seen (table_at k.tables o) (take sh.vertices sh.vertex) (take sh.frees sh.free) in
      ap (λ (n : ℕ). same_column f n x y) part_free
      ∙ same_columns f (value_at d d.bound o) (free_count d.inputs d.bound) x y
      (λ i g. value-seen o x i l a g) (λ i g. value-seen o y i l b g)
      ∙ sym (alike_columns d d.bound o x y)

  pub locals_are : (o : ℕ) (r : Locals) → o < k.outputs
      → ClassesBy
      (alike_seen (table_at k.tables o) (take sh.vertices sh.vertex) (take sh.frees sh.free))
      (length (take sh.vertices sh.vertex)) r.count (local_at r.classes)
      → LocalsAre d o r
  unfolding local_count local_class
  locals_are o r l c =
      let by : ClassesBy (alike d d.bound o) (vertex_count d.bound) r.count (local_at r.classes)
      = classes_agree c part-vertex (λ x y a b. alike-seen o x y l a b) in
      record {
        counted = by.counted;
        few = classes_few by (subst (λ (n : ℕ). n ≤ max_vertices) s.vertices s.few_vertices);
        classes = by.classes;
      }

  -- ---- every output
  pub globals_are : (m : ℕ) (keys : List ℕ) (r : Globals) → m ≡ length d.outputs → length keys ≡ max_vertices
      → ((x y : ℕ) → x < vertex_count d.bound → y < vertex_count d.bound → same_key keys x y ≡ alike_upto d d.bound m x y)
      → ClassesBy (same_key (take sh.vertices keys)) (length (take sh.vertices keys)) r.count (global_at r.classes)
      → GlobalsAre d r
  unfolding global_count global_class
  globals_are m keys r e size same c =
      let few : sh.vertices ≤ max_vertices = s.few_vertices in
      let long : length (take sh.vertices keys) ≡ vertex_count d.bound
      = length-take-le sh.vertices keys (omega arith) ∙ s.vertices in
      let key : (x : ℕ) → x < vertex_count d.bound → get_or (take sh.vertices keys) x 0 ≡ get_or keys x 0
      = λ x l. get_or-take sh.vertices keys x 0 (subst (λ (n : ℕ). x < n) (sym s.vertices) l) in
      let by : ClassesBy (alike_in_all d d.bound) (vertex_count d.bound) r.count (global_at r.classes)
      = classes_agree c long
      (λ x y a b.
      ap₂ (λ (u w : ℕ). eqb u w) (key x a) (key y b) ∙ same x y a b ∙ ap (λ (n : ℕ). alike_upto d d.bound n x y) e) in
      record {
        counted = by.counted;
        few = classes_few by (subst (λ (n : ℕ). n ≤ max_vertices) s.vertices s.few_vertices);
        classes = by.classes;
      }

pub width_known : (d : Design) (o w : ℕ) (r : Locals) → LocalsAre d o r → w ≡ width_of r.count → w ≤ max_bound → WidthIs d o w
unfolding width
width_known d o w r l e few = record { is = e ∙ ap width_of l.counted; few = few }

-- ---- keys
key_both : (a b c e : ℕ) → c < max_vertices → e < max_vertices → eqb (a * max_vertices + c) (b * max_vertices + e) ≡ (eqb a b && eqb c e)
key_both a b c e l g =
    same_test (eqb (a * max_vertices + c) (b * max_vertices + e)) (eqb a b && eqb c e)
    (λ t.
    let q : a * max_vertices + c ≡ b * max_vertices + e = eqb-true (a * max_vertices + c) (b * max_vertices + e) t in
    and_both (eqb a b) (eqb c e) (eq-eqb a b (omega arith)) (eq-eqb c e (omega arith)))
    (λ t.
    let q : a ≡ b = eqb-true a b (and_left (eqb a b) (eqb c e) t) in
    let r : c ≡ e = eqb-true c e (and_right (eqb a b) (eqb c e) t) in
    eq-eqb (a * max_vertices + c) (b * max_vertices + e) (omega arith))

-- keys that tell vertices apart by the first o outputs, each with output o's class, tell them apart by one output more
module _ (d : Design) (o : ℕ) (keys list : List ℕ) (r : Locals) (l : LocalsAre d o r)
    (same : (x y : ℕ) → x < vertex_count d.bound → y < vertex_count d.bound → same_key keys x y ≡ alike_upto d d.bound o x y)
    (join : (x : ℕ) → x < vertex_count d.bound → get_or list x 0 ≡ get_or keys x 0 * max_vertices + local_at r.classes x)
    (low : (x : ℕ) → x < vertex_count d.bound → local_at r.classes x < max_vertices) where
  pub keys_more : (x y : ℕ) → x < vertex_count d.bound → y < vertex_count d.bound
      → same_key list x y ≡ alike_upto d d.bound (suc o) x y
  unfolding alike_upto local_class
  keys_more x y a b =
      let cx : ℕ = local_at r.classes x in
      let cy : ℕ = local_at r.classes y in
      let class : eqb cx cy ≡ alike d d.bound o x y
      = ap₂ (λ (u w : ℕ). eqb u w) (l.classes x a) (l.classes y b)
      ∙ class_test (alike d d.bound o) (alike_equivalence d d.bound o) x y in
      ap₂ (λ (u w : ℕ). eqb u w) (join x a) (join y b)
      ∙ key_both (get_or keys x 0) (get_or keys y 0) cx cy (low x a) (low y b)
      ∙ ap₂ (λ (t u : Bool). t && u) (same x y a b) class
