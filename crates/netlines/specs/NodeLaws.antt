-- The node that the code writes is the node of a design: what stands in its table at each code and free row is the value at
-- the first vertex that produces the code. Assumes nothing.
use Rattle.std.specs.Prelude.{◌≡◌, refl, Bool, true, false, ℕ, zero, suc, ◌+◌, ◌*◌, ◌/◌, ◌%◌, ◌^◌, ◌≤◌, ◌<◌, get_or, take}
use Rattle.std.proofs.Math.Path.{sym, ap, ap₂, subst}
use Rattle.std.proofs.Common.{◌∙◌, arith, pow-add, pow_pos, get_or-take, length-take-le}
use mathlib.Core.List.{List}
use Rattle.std.proofs.Math.Option.{Option, some, none}
use Rattle.std.proofs.Math.Nat.{mod-lt}
use Rattle.std.proofs.Math.Dec.{eqb}
use Rattle.std.proofs.Math.ListN.{length}
use Rattle.limits.specs.Limits.{max_inputs}
use Rattle.bits.specs.Logic.{pick}
use Rattle.rows.specs.Words.{row_on, Rowwise}
use Rattle.sheet.specs.Examine.{Design}
use Rattle.sheet.specs.Value.{output_on}
use Rattle.classes.specs.Columns.{free, join_row, value_at, vertex_count, free_count}
use Rattle.bits.specs.Values.{values_upto}
use Rattle.classes.specs.Proper.{Parted}
use Rattle.classes.specs.Seen.{seen}
use Rattle.classes.specs.Answer.{ShapeIs}
use Rattle.classes.specs.JoinLaws.{join-small, join-sum}
use Rattle.classes.specs.declared.Shape.{Shape}
use Rattle.network.specs.Check.{first_of}
use Rattle.serving.specs.Build.{code_in, entry, entry_at, node_built}
use Rattle.netlines.specs.Lines.{chosen, entry_by, node_by, Bounded, Fitting}
use Rattle.bits.specs.ValuesLaws.{values_same}

-- what is chosen hangs only on the values at the vertices looked at
picks : (b : Bool) (f : ℕ → Bool) (i : ℕ) (q : Option ℕ) → chosen f (pick b (some i) q) ≡ pick b (f i) (chosen f q)
picks true f i q = refl
picks false f i q = refl

chosen_same : (t f g : ℕ → Bool) (k i : ℕ) → ((x : ℕ) → i ≤ x → x < i + k → f x ≡ g x) → chosen f (first_of t k i) ≡ chosen g (first_of t k i)
unfolding first_of
chosen_same t f g zero i h = refl
chosen_same t f g (suc k) i h =
    let later : chosen f (first_of t k (suc i)) ≡ chosen g (first_of t k (suc i)) = chosen_same t f g k (suc i) (λ x a b. h x (omega arith) (omega arith)) in
    picks (t i) f i (first_of t k (suc i))
    ∙ ap₂ (λ (a b : Bool). pick (t i) a b) (h i (omega arith) (omega arith)) later
    ∙ sym (picks (t i) g i (first_of t k (suc i)))

entry-chosen : (d : Design) (o z : ℕ) (q : Option ℕ) → chosen (λ x. value_at d d.bound o x z) q ≡ entry_at d o z q
entry-chosen d o z (some x) = refl
entry-chosen d o z none = refl

module _ (d : Design) (sh : Shape) (s : ShapeIs d sh) where
  join_of : (x y : ℕ) → x < sh.vertices → y < sh.frees
      → get_or sh.vertex x 0 + get_or sh.free y 0 ≡ join_row d.inputs d.bound x y
  join_of x y a b =
      join-sum d.inputs d.bound x y (s.at_vertex x a) (s.at_free y b)

  -- the shape of a design fits
  pub shape_fitting : Parted d.inputs d.bound → length d.inputs ≤ max_inputs → Fitting sh
  shape_fitting parted few =
      record {
        few_vertices = s.few_vertices;
        few_free = s.few_free;
        laid = record {
          ns = d.inputs;
          bs = d.bound;
          parted = parted;
          few_inputs = few;
          vertex-count = s.vertices;
          free-count = s.free_rows;
          at_vertex = s.at_vertex;
          at_free = s.at_free;
        };
      }

  module _ (few : length d.inputs ≤ max_inputs) where
    module _ (v-long : sh.vertices ≤ length sh.vertex) (f-long : sh.frees ≤ length sh.free) (t : List ℕ) (o : ℕ) (table : Rowwise (output_on d o) t) where
      -- the vertices' and the free rows' own parts of the arrays
      abbrev vs : List ℕ
      vs = take sh.vertices sh.vertex

      abbrev fs : List ℕ
      fs = take sh.frees sh.free

      v-size : length vs ≡ vertex_count d.bound
      v-size = length-take-le sh.vertices sh.vertex v-long ∙ s.vertices

      f-size : length fs ≡ free_count d.inputs d.bound
      f-size = length-take-le sh.frees sh.free f-long ∙ s.free_rows

      seen_value : (x y : ℕ) → x < length vs → y < length fs → seen t vs fs x y ≡ value_at d d.bound o x y
      unfolding seen value_at
      seen_value x y a b =
          let p : x < sh.vertices = subst (λ (n : ℕ). x < n) (v-size ∙ sym s.vertices) a in
          let q : y < sh.frees = subst (λ (n : ℕ). y < n) (f-size ∙ sym s.free_rows) b in
          ap (row_on t)
          (ap₂ (λ (m n : ℕ). m + n) (get_or-take sh.vertices sh.vertex x 0 p) (get_or-take sh.frees sh.free y 0 q) ∙ join_of x y p q)
          ∙ table.each (join_row d.inputs d.bound x y) (join-small d.inputs d.bound x y few)

      entry-is : (codes : ℕ → ℕ) (is : List ℕ) (j : ℕ) → entry_by t vs fs codes is j ≡ entry d codes o is j
      unfolding entry_by entry
      entry-is codes is j =
          let some_free : 0 < length fs = subst (λ (k : ℕ). 0 < k) (sym f-size) (pow_pos (length (free d.inputs d.bound))) in
          let z : j % length fs < length fs = mod-lt j some_free in
          chosen_same (λ x. eqb (code_in is (codes x)) (j / length fs)) (λ x. seen t vs fs x (j % length fs))
          (λ x. value_at d d.bound o x (j % length fs)) (length vs) 0
          (λ x a b. seen_value x (j % length fs) (omega arith) z)
          ∙ entry-chosen d o (j % length fs) (first_of (λ x. eqb (code_in is (codes x)) (j / length fs)) (length vs) 0)
          ∙ ap₂ (λ (m n : ℕ). entry_at d o (j % m) (first_of (λ x. eqb (code_in is (codes x)) (j / m)) n 0)) f-size v-size

      pub node_is : (codes : ℕ → ℕ) (is : List ℕ) → node_by t vs fs codes is ≡ node_built d codes o is
      unfolding node_by node_built
      node_is codes is =
          let count : 2 ^ length is * length fs ≡ 2 ^ (length is + length (free d.inputs d.bound))
          = ap (λ (m : ℕ). 2 ^ length is * m) f-size ∙ sym (pow-add 2 (length is) (length (free d.inputs d.bound))) in
          ap (λ (ds : List Bool). record { reads = is; digits = ds })
          (values_same (entry_by t vs fs codes is) (entry d codes o is) (2 ^ length is * length fs) (λ j l. entry-is codes is j)
          ∙ ap (values_upto (entry d codes o is)) count)

-- a shape that fits, by its parts of the arrays
pub fitting_bounded : (sh : Shape) → Fitting sh → sh.vertices ≤ length sh.vertex → sh.frees ≤ length sh.free
    → Bounded (take sh.vertices sh.vertex) (take sh.frees sh.free)
fitting_bounded sh g v-long f-long =
    let a : length (take sh.vertices sh.vertex) ≡ sh.vertices = length-take-le sh.vertices sh.vertex v-long in
    let b : length (take sh.frees sh.free) ≡ sh.frees = length-take-le sh.frees sh.free f-long in
    record {
      few_vertices = omega (arith, g.few_vertices);
      few_free = omega (arith, g.few_free);
      laid =
          let laid = g.laid in
          record {
            ns = laid.ns;
            bs = laid.bs;
            parted = laid.parted;
            few_inputs = laid.few_inputs;
            vertex-count = a ∙ laid.vertex-count;
            free-count = b ∙ laid.free-count;
            at_vertex = λ x m.
                let p : x < sh.vertices = omega arith in
                get_or-take sh.vertices sh.vertex x 0 p ∙ laid.at_vertex x p;
            at_free = λ y n.
                let q : y < sh.frees = omega arith in
                get_or-take sh.frees sh.free y 0 q ∙ laid.at_free y q;
          };
    }
