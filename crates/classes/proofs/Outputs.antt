-- The loop over the outputs: the local classes and the width of each, and keys that tell vertices apart by the outputs so
-- far. Assumes nothing.
use mathlib.Core.Path.{◌≡◌, sym, ap, ap₂, subst, ◌∙◌}
use mathlib.Core.List.{List, []}
use Prim.Native.Nat.{ℕ, ◌+◌, ◌-◌, ◌*◌, ◌^◌, ◌≤◌, ◌<◌}
use native.Mathlib.Omega.{arith}
use native.Mathlib.Numerals.{add-one}
use borrow.Author.Count.{below_more}
use borrow.Author.Tests.{eq-eqb}
use lib.Arith.{digits_lt}
use lib.ListN.{length, get_or, take, set, length-set, replicate, length-replicate, get_or-replicate}
use lib.Pow.{pow_mono, pow-add}
use lib.Seq.{get_or-set_same, get_or-set_other, get_or-take, length-take-le}
use Rattle.limits.specs.Limits.{max_bound, max_outputs, max_rows, max_vertices, max_free_rows}
use Rattle.sheet.specs.Examine.{Design}
use Rattle.sheet.specs.Known.{Holds, table_at}
use Rattle.sheet.specs.declared.Sheet.{Sheet}
use Rattle.classes.specs.Columns.{vertex_count, alike_upto}
use Rattle.classes.specs.Width.{width_of}
use Rattle.classes.specs.Proper.{Proper}
use Rattle.classes.specs.Seen.{seen, alike_seen, same_key, Inside, Keyable, KeysBy, ClassesBy}
use Rattle.classes.specs.Answer.{ShapeIs, Shaped, local_at, global_at, locals_at, LocalsAre, WidthIs, ClassesAre}
use Rattle.classes.specs.ColumnLaws.{same-column}
use Rattle.classes.specs.SeenLaws.{classes_few, classes_low, locals_are, globals_are, width_known, keys_more}
use Rattle.classes.specs.declared.Shape.{Shape}
use Rattle.classes.specs.declared.Locals.{Locals}
use Rattle.classes.specs.declared.Globals.{Globals}

-- what is known of the first o outputs of a design
pub record OutlinedFor (d : Design) (locals : List Locals) (widths keys : List ℕ) (o : ℕ) : Type 0 where
  pub classes : (p : ℕ) → p < o → LocalsAre d p (locals_at locals p)
  pub wide : (p : ℕ) → p < o → WidthIs d p (get_or widths p 0)
  pub keyed : (x y : ℕ) → x < vertex_count d.bound → y < vertex_count d.bound → same_key keys x y ≡ alike_upto d d.bound o x y

pub record Outlined (k : Sheet) (sh : Shape) (locals : List Locals) (widths keys : List ℕ) (o : ℕ) : Type 0 where
  pub within : o ≤ k.outputs
  pub locals-size : length locals ≡ max_outputs
  pub widths_size : length widths ≡ max_outputs
  pub keys_size : length keys ≡ max_vertices
  pub low : (x : ℕ) → x < sh.vertices → get_or keys x 0 < 2 ^ (max_bound * o)
  pub right : (d : Design) → Holds d k → Proper d → OutlinedFor d locals widths keys o

-- the parts of a shape that the code lends
abbrev pub vertex_part : Shape → List ℕ
vertex_part sh = take sh.vertices sh.vertex

abbrev pub free_part : Shape → List ℕ
free_part sh = take sh.frees sh.free

abbrev pub zeros : List ℕ
zeros = replicate max_vertices 0

zero-key : (x : ℕ) → x < max_vertices → get_or zeros x 0 ≡ 0
zero-key x h = get_or-replicate max_vertices x 0 0 h

module _ {k : Sheet} {sh : Shape} (s : Shaped k sh) where
  pub vertex_fits : sh.vertices ≤ length sh.vertex
  vertex_fits = let a : length sh.vertex ≡ max_vertices = s.vertex-size in let b : sh.vertices ≤ max_vertices = s.few_vertices in omega arith

  pub free_fits : sh.frees ≤ length sh.free
  free_fits = let a : length sh.free ≡ max_free_rows = s.free-size in let b : sh.frees ≤ max_free_rows = s.few_free in omega arith

  pub vertex_part_lem : length (vertex_part sh) ≡ sh.vertices
  vertex_part_lem = length-take-le sh.vertices sh.vertex vertex_fits

  pub free_part_lem : length (free_part sh) ≡ sh.frees
  free_part_lem = length-take-le sh.frees sh.free free_fits

  pub few_part : length (vertex_part sh) ≤ max_vertices
  few_part = let e : length (vertex_part sh) ≡ sh.vertices = vertex_part_lem in let f : sh.vertices ≤ max_vertices = s.few_vertices in omega arith

  pub parts_inside : Inside (vertex_part sh) (free_part sh)
  parts_inside =
      record {
        each = λ x y a b.
            let inx : x < sh.vertices = subst (λ (n : ℕ). x < n) vertex_part_lem a in
            let iny : y < sh.frees = subst (λ (n : ℕ). y < n) free_part_lem b in
            subst (λ (n : ℕ). n < max_rows)
            (sym (ap₂ (λ (u w : ℕ). u + w) (get_or-take sh.vertices sh.vertex x 0 inx) (get_or-take sh.frees sh.free y 0 iny)))
            (s.inside x y inx iny);
      }

  pub outlined_none : (l : Locals) → Outlined k sh (replicate max_outputs l) (replicate max_outputs 0) zeros 0
  unfolding alike_upto
  outlined_none l =
      let few : sh.vertices ≤ max_vertices = s.few_vertices in
      record {
        within = omega arith;
        locals-size = length-replicate max_outputs l;
        widths_size = length-replicate {A = ℕ} max_outputs 0;
        keys_size = length-replicate {A = ℕ} max_vertices 0;
        low = λ x h. let z : get_or zeros x 0 ≡ 0 = zero-key x (omega arith) in omega arith;
        right = λ d h p.
            let same : sh.vertices ≡ vertex_count d.bound = (s.right d h p).vertices in
            record {
              classes = λ q a. absurd (omega arith);
              wide = λ q a. absurd (omega arith);
              keyed = λ x y a b. eq-eqb (get_or zeros x 0) (get_or zeros y 0) (zero-key x (omega arith) ∙ sym (zero-key y (omega arith)));
            };
      }

module _ {k : Sheet} {sh : Shape} {locals : List Locals} {widths keys : List ℕ} {o : ℕ} (s : Shaped k sh) (m : k.outputs ≤ max_outputs)
    (q : Outlined k sh locals widths keys o) (h : o < k.outputs) (r : Locals)
    (c : ClassesBy (alike_seen (table_at k.tables o) (vertex_part sh) (free_part sh)) (length (vertex_part sh)) r.count
    (local_at r.classes)) where
  pub few_classes : r.count ≤ max_vertices
  few_classes = classes_few c (few_part s)

  low_class : (x : ℕ) → x < sh.vertices → local_at r.classes x < max_vertices
  low_class x l =
      classes_low c (few_part s)
      (same-column (seen (table_at k.tables o) (vertex_part sh) (free_part sh)) (length (free_part sh)))
      x (subst (λ (n : ℕ). x < n) (sym (vertex_part_lem s)) l)

  pub output_keyable : Keyable keys (local_at r.classes) sh.vertices
  output_keyable =
      record {
        low-key = λ x l.
            let lt : get_or keys x 0 < 2 ^ (max_bound * o) = q.low x l in
            let most : 2 ^ (max_bound * o) ≤ 2 ^ (max_bound * (max_outputs - 1)) = pow_mono {j = max_bound * (max_outputs - 1)} (omega arith) in
            omega arith;
        low_class = low_class;
      }

  low_more : (list : List ℕ) → KeysBy keys (local_at r.classes) sh.vertices list
      → (x : ℕ) → x < sh.vertices → get_or list x 0 < 2 ^ (max_bound * (o + 1))
  low_more list b x l =
      let next : max_bound * o + max_bound ≡ max_bound * (o + 1) = omega arith in
      let lt : get_or keys x 0 * max_vertices + local_at r.classes x < 2 ^ (max_bound * o) * max_vertices = digits_lt (q.low x l) (low_class x l) in
      subst (λ (n : ℕ). n < 2 ^ (max_bound * (o + 1))) (sym (b.each x l))
      (subst (λ (n : ℕ). get_or keys x 0 * max_vertices + local_at r.classes x < n)
      (sym (pow-add 2 (max_bound * o) max_bound) ∙ ap (λ (n : ℕ). 2 ^ n) next)
      lt)

  pub outlined_more : (list : List ℕ) (w : ℕ) → KeysBy keys (local_at r.classes) sh.vertices list → w ≡ width_of r.count → w ≤ max_bound
      → Outlined k sh (set locals o r) (set widths o w) list (o + 1)
  outlined_more list w b e few =
      let ls : length locals ≡ max_outputs = q.locals-size in
      let ws : length widths ≡ max_outputs = q.widths_size in
      record {
        within = omega arith;
        locals-size = length-set locals o r ∙ ls;
        widths_size = length-set widths o w ∙ ws;
        keys_size = b.size;
        low = low_more list b;
        right = λ d hd p.
            let sd : ShapeIs d sh = s.right d hd p in
            let before : OutlinedFor d locals widths keys o = q.right d hd p in
            let here : LocalsAre d o r = locals_are d k sh hd p sd s.vertex-size s.free-size o r h c in
            let back : (x : ℕ) → x < vertex_count d.bound → x < sh.vertices
            = λ x l. subst (λ (n : ℕ). x < n) (sym sd.vertices) l in
            record {
              classes =
                  below_more (λ (z : ℕ). LocalsAre d z (locals_at (set locals o r) z)) o
                  (λ z l.
                  subst (λ (y : Locals). LocalsAre d z y)
                  (sym (get_or-set_other locals o z r (record { count = 0; classes = [] }) (λ f. let u : z ≡ o = f in omega arith)))
                  (before.classes z l))
                  (subst (λ (y : Locals). LocalsAre d o y)
                  (sym (get_or-set_same locals o r (record { count = 0; classes = [] }) (omega arith)))
                  here);
              wide =
                  below_more (λ (z : ℕ). WidthIs d z (get_or (set widths o w) z 0)) o
                  (λ z l.
                  subst (λ (y : ℕ). WidthIs d z y)
                  (sym (get_or-set_other widths o z w 0 (λ f. let u : z ≡ o = f in omega arith)))
                  (before.wide z l))
                  (subst (λ (y : ℕ). WidthIs d o y) (sym (get_or-set_same widths o w 0 (omega arith))) (width_known d o w r here e few));
              keyed = λ x y l g.
                  keys_more d o keys list r here before.keyed
                  (λ z a. b.each z (back z a))
                  (λ z a. low_class z (back z a))
                  x y l g
                  ∙ ap (λ (n : ℕ). alike_upto d d.bound n x y) (sym (add-one o));
            };
      }

-- all outputs
module _ {k : Sheet} {sh : Shape} {locals : List Locals} {widths keys : List ℕ} {o : ℕ} (s : Shaped k sh)
    (q : Outlined k sh locals widths keys o) where
  pub keys_fit : sh.vertices ≤ length keys
  keys_fit = let a : length keys ≡ max_vertices = q.keys_size in let b : sh.vertices ≤ max_vertices = s.few_vertices in omega arith

  pub keys_part : length (take sh.vertices keys) ≡ sh.vertices
  keys_part = length-take-le sh.vertices keys keys_fit

  pub outlined_all : k.outputs ≤ o → (g : Globals)
      → ClassesBy (same_key (take sh.vertices keys)) (length (take sh.vertices keys)) g.count (global_at g.classes)
      → (d : Design) → Holds d k → Proper d
      → ClassesAre d (record { shape = sh; locals = locals; widths = widths; globals = g })
  outlined_all e g c d h p =
      let within : o ≤ k.outputs = q.within in
      let count : k.outputs ≡ length d.outputs = h.outputs_counted in
      let all : o ≡ length d.outputs = omega arith in
      let f : OutlinedFor d locals widths keys o = q.right d h p in
      record {
        shaped = s.right d h p;
        locals = λ n l. f.classes n (omega arith);
        widths = λ n l. f.wide n (omega arith);
        globals =
            globals_are d k sh h p (s.right d h p) s.vertex-size s.free-size o keys g all q.keys_size f.keyed c;
      }
