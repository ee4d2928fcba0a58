-- The shape of a design's rows: rows gathered by the inputs' digits are the rows of vertices and free rows, and every row of
-- a vertex and a free row is a row of a table. Assumes nothing.
use Rattle.std.specs.Prelude.{◌≡◌, List, map, ℕ, ◌+◌, ◌-◌, ◌*◌, ◌^◌, ◌≤◌, ◌<◌, length, get_or, take}
use Rattle.std.proofs.Common.{sym, ap, ap₂, subst, ◌∙◌, arith, mul-one, zero-mul, zero-add, add-zero, pow_mono, pow_pos, ext_get_or, get_or-take, length-take-le}
use Rattle.std.proofs.Math.Decide.{dec_lt}
use Rattle.std.proofs.lemmas.List.{length-map}
use Rattle.std.proofs.Math.ListN.{get_or-eq_default}
use Rattle.limits.specs.Limits.{max_inputs, max_bound, max_rows, max_vertices, max_free_rows}
use Rattle.names.specs.Name.{Name}
use Rattle.sheet.specs.Examine.{Design}
use Rattle.sheet.specs.Known.{Holds, position}
use Rattle.sheet.specs.declared.Sheet.{Sheet}
use Rattle.classes.specs.Columns.{free, vertex_count}
use Rattle.classes.specs.Proper.{Proper, Parted}
use Rattle.classes.specs.Seen.{Small, DigitsAre, digit_of, gathered, Gathered}
use Rattle.classes.specs.Answer.{Counts, ShapeIs, Shaped}
use Rattle.classes.specs.FreeLaws.{bound_and_free, length_free}
use Rattle.classes.specs.DigitLaws.{gathered-add, gathered-lt, join-gathered}
use Rattle.classes.specs.PlaceLaws.{map_at}
use Rattle.classes.specs.declared.Shape.{Shape}

-- the sheet of a proper design has the counts that the code asks for
pub proper_counts : (d : Design) (k : Sheet) → Holds d k → Proper d → Counts k
proper_counts d k h p =
    let a : k.inputs ≡ length d.inputs = h.inputs_counted in
    let b : k.bounds ≡ length d.bound = h.bound-counted in
    let s : 1 ≤ length d.bound = p.some-bound in
    let f : length d.bound + length (free d.inputs d.bound) ≡ length d.inputs
    = bound_and_free d.inputs d.bound p.parted in
    record {
      few_inputs = h.inputs_few;
      some-bound = omega arith;
      few_bound = h.bound_few;
      bound_inputs = omega arith;
      few_outputs = h.outputs_few;
    }

-- the digits of all inputs, as one list
digit_list : (ns bs : List Name) (places list : List ℕ) (n : ℕ) → n ≤ max_inputs → DigitsAre places n list → Parted ns bs → length ns ≡ n
    → places ≡ map (position ns) bs → take n list ≡ map (digit_of bs (free ns bs)) ns
digit_list ns bs places list n few s p e q =
    let size : length list ≡ max_inputs = s.size in
    let long : length (take n list) ≡ n = length-take-le n list (omega arith) in
    let other : length (map (digit_of bs (free ns bs)) ns) ≡ length ns = length-map ns (digit_of bs (free ns bs)) in
    ext_get_or 0 (take n list) (map (digit_of bs (free ns bs)) ns) (omega arith)
    (λ i l.
    get_or-take n list i 0 (omega arith) ∙ s.right ns bs p e q i (omega arith)
    ∙ sym (map_at (digit_of bs (free ns bs)) ns i (omega arith)))

-- the digits of n inputs are few and small
pub small_part : (list : List ℕ) (n : ℕ) → Small list → n ≤ max_inputs → length list ≡ max_inputs → (length (take n list) ≤ max_inputs) × Small (take n list)
small_part list n s few e =
    let long : length (take n list) ≡ n = length-take-le n list (omega arith) in (
      omega arith,
      record {
        each = λ i.
            elim (dec_lt i n) as (λ _. get_or (take n list) i 0 < 64) [
              | yes l ↦ subst (λ (x : ℕ). x < 64) (sym (get_or-take n list i 0 l)) (s.each i)
              | no g ↦ subst (λ (x : ℕ). x < 64) (sym (get_or-eq_default (take n list) 0 {n = i} (omega arith))) (omega arith)
            ];
      },
    )

pub few_power : (b v : ℕ) → v ≡ 2 ^ b → b ≤ max_bound → v ≤ max_vertices
few_power b v e l = subst (λ (n : ℕ). n ≤ max_vertices) (sym e) (pow_mono {j = max_bound} l)

module _ (k : Sheet) (list : List ℕ) (sh : Shape) (c : Counts k) (s : DigitsAre (take k.bounds k.bound) k.inputs list)
    (v : sh.vertices ≡ 2 ^ k.bounds) (f : sh.frees ≡ 2 ^ (k.inputs - k.bounds))
    (gv : Gathered (take k.inputs list) 1 sh.vertex) (gf : Gathered (take k.inputs list) sh.vertices sh.free)
    (sv : length sh.vertex ≡ max_vertices) (sf : length sh.free ≡ max_free_rows) where
  few_vertices : sh.vertices ≤ max_vertices
  few_vertices = few_power k.bounds sh.vertices v c.few_bound

  few_free : sh.frees ≤ max_free_rows
  few_free =
      let a : k.inputs ≤ max_inputs = c.few_inputs in
      let b : 1 ≤ k.bounds = c.some-bound in
      let few : k.inputs - k.bounds ≤ max_inputs - 1 = omega arith in
      subst (λ (n : ℕ). n ≤ max_free_rows) (sym f) (pow_mono {j = max_inputs - 1} few)

  at_vertex : (x : ℕ) → x < sh.vertices → get_or sh.vertex x 0 ≡ gathered (take k.inputs list) x
  at_vertex x l =
      let few : sh.vertices ≤ max_vertices = few_vertices in
      gv.each x (omega arith) ∙ ap (gathered (take k.inputs list)) (mul-one x)

  at_free : (y : ℕ) → y < sh.frees → get_or sh.free y 0 ≡ gathered (take k.inputs list) (y * 2 ^ k.bounds)
  at_free y l =
      let few : sh.frees ≤ max_free_rows = few_free in
      gf.each y (omega arith) ∙ ap (λ (n : ℕ). gathered (take k.inputs list) (y * n)) v

  inside : (x y : ℕ) → x < sh.vertices → y < sh.frees → get_or sh.vertex x 0 + get_or sh.free y 0 < max_rows
  inside x y l m =
      let digits : List ℕ = take k.inputs list in
      let size : length list ≡ max_inputs = s.size in
      let few : k.inputs ≤ max_inputs = c.few_inputs in
      let long : length digits ≡ k.inputs = length-take-le k.inputs list (omega arith) in
      let sum : get_or sh.vertex x 0 + get_or sh.free y 0 ≡ gathered digits (y * 2 ^ k.bounds + x)
      = ap₂ (λ (a b : ℕ). a + b) (at_vertex x l) (at_free y m)
      ∙ gathered-add digits k.bounds x y (subst (λ (n : ℕ). x < n) v l) in
      let lt : gathered digits (y * 2 ^ k.bounds + x) < 2 ^ length digits = gathered-lt digits (y * 2 ^ k.bounds + x) in
      let most : 2 ^ length digits ≤ 2 ^ max_inputs = pow_mono {j = max_inputs} (omega arith) in
      omega arith

  shape_right : (d : Design) → Holds d k → Proper d → ShapeIs d sh
  shape_right d h p =
      let ns : List Name = d.inputs in
      let bs : List Name = d.bound in
      let a : k.inputs ≡ length ns = h.inputs_counted in
      let b : k.bounds ≡ length bs = h.bound-counted in
      let digits : take k.inputs list ≡ map (digit_of bs (free ns bs)) ns
      = digit_list ns bs (take k.bounds k.bound) list k.inputs c.few_inputs s p.parted (sym a) h.bound_placed in
      let vertices : sh.vertices ≡ vertex_count bs = v ∙ ap (λ (n : ℕ). 2 ^ n) b in
      record {
        vertices = vertices;
        few_vertices = few_vertices;
        free_rows =
            f ∙ ap₂ (λ (m n : ℕ). 2 ^ (m - n)) a b ∙ ap (λ (n : ℕ). 2 ^ n) (sym (length_free ns bs p.parted));
        few_free = few_free;
        at_vertex = λ x l.
            at_vertex x l
            ∙ ap₂ gathered digits (sym (zero-add x) ∙ ap (λ (n : ℕ). n + x) (sym (zero-mul (vertex_count bs))))
            ∙ sym (join-gathered ns bs x 0 (subst (λ (n : ℕ). x < n) vertices l));
        at_free = λ y l.
            at_free y l
            ∙ ap₂ gathered digits (ap (λ (n : ℕ). y * 2 ^ n) b ∙ sym (add-zero (y * vertex_count bs)))
            ∙ sym (join-gathered ns bs 0 y (pow_pos (length bs)));
      }

  pub shaped : Shaped k sh
  shaped =
      record {
        vertex-size = sv;
        free-size = sf;
        few_vertices = few_vertices;
        few_free = few_free;
        inside = inside;
        right = shape_right;
      }
