-- A loop that gives each number its class, from 0 on: a number that is its own first relative begins a class, any other has
-- its first relative's. Assumes nothing.
use mathlib.Core.Path.{◌≡◌, refl, sym, ap, subst, ◌∙◌}
use mathlib.Core.Bool.{Bool}
use mathlib.Core.List.{List}
use Prim.Native.Nat.{ℕ, ◌+◌, ◌≤◌, ◌<◌}
use native.Mathlib.Omega.{arith}
use native.Mathlib.Numerals.{add-one}
use borrow.Author.Count.{below_more}
use lib.ListN.{length, get_or, set, length-set}
use lib.Seq.{get_or-set_same, get_or-set_other}
use Rattle.limits.specs.Limits.{max_vertices}
use Rattle.classes.specs.Classes.{first_like, class_count, class_of}
use Rattle.classes.specs.ClassLaws.{Equivalence, first_like_lem, count_most, first_counts, other_counts, class_of_first, class_of_earlier}
use Rattle.classes.specs.Seen.{ClassesBy}

-- the classes of the numbers below x, of which there are count
pub record Numbered (same : ℕ → ℕ → Bool) (l : List ℕ) (x count : ℕ) : Type 0 where
  pub size : length l ≡ max_vertices
  pub by : ClassesBy same x count (λ z. get_or l z 0)

module _ {same : ℕ → ℕ → Bool} where
  pub numbered_none : {l : List ℕ} → length l ≡ max_vertices → Numbered same l 0 0
  unfolding class_count
  numbered_none e = record { size = e; by = record { counted = refl; classes = λ z h. absurd (omega arith) } }

  -- what is stored at x is x's class, and the classes before stay
  stored : (l : List ℕ) (x count : ℕ) (a : ℕ) → Numbered same l x count → x < max_vertices → a ≡ class_of same x
      → (z : ℕ) → z < x + 1 → get_or (set l x a) z 0 ≡ class_of same z
  stored l x count a n h e =
      let s : length l ≡ max_vertices = n.size in
      below_more (λ (z : ℕ). get_or (set l x a) z 0 ≡ class_of same z) x
      (λ z b.
      get_or-set_other l x z a 0 (λ q. let w : z ≡ x = q in omega arith) ∙ n.by.classes z b)
      (get_or-set_same l x a 0 (omega arith) ∙ e)

  -- x's first relative y came before
  pub numbered_old : {l m : List ℕ} {x y count c : ℕ} → Equivalence same → Numbered same l x count → x < max_vertices → y < x
      → y ≡ first_like same x
      → m ≡ set l x (get_or l y 0) → c ≡ count → Numbered same m (x + 1) c
  numbered_old {l} {m} {x} {y} {count} {c} q n h b e f g =
      let a : ℕ = get_or l y 0 in
      record {
        size = ap length f ∙ length-set l x a ∙ n.size;
        by = record {
          counted = g ∙ n.by.counted ∙ sym (other_counts same x (λ u. omega arith)) ∙ ap (class_count same) (sym (add-one x));
          classes = λ z u.
              ap (λ (k : List ℕ). get_or k z 0) f
              ∙ stored l x count a n h (n.by.classes y b ∙ sym (class_of_earlier same q x y (sym e))) z u;
        };
      }

  -- x is its own first relative y
  pub numbered_new : {l m : List ℕ} {x y count c : ℕ} {a : ℕ} → Numbered same l x count → x < max_vertices → x ≤ y → y ≡ first_like same x
      → m ≡ set l x a → a ≡ count → c ≡ count + 1 → Numbered same m (x + 1) c
  numbered_new {l} {m} {x} {y} {count} {c} {a} n h b e f k g =
      let most : first_like same x ≤ 0 + x = (first_like_lem same x).to_end in
      let first : first_like same x ≡ x = omega arith in
      record {
        size = ap length f ∙ length-set l x a ∙ n.size;
        by = record {
          counted =
              g ∙ ap (λ (u : ℕ). u + 1) n.by.counted ∙ sym (first_counts same x first)
              ∙ ap (class_count same) (sym (add-one x));
          classes = λ z u.
              ap (λ (w : List ℕ). get_or w z 0) f
              ∙ stored l x count a n h (k ∙ n.by.counted ∙ sym (class_of_first same x first)) z u;
        };
      }

  pub numbered_few : {l : List ℕ} {x count : ℕ} → Numbered same l x count → count ≤ x
  numbered_few {l} {x} {count} n =
      let e : count ≡ class_count same x = n.by.counted in
      let m : class_count same x ≤ x = count_most same x in
      omega arith

  pub numbered_all : {l : List ℕ} {x count v : ℕ} → Numbered same l x count → x ≡ v
      → ClassesBy same v count (λ z. get_or l z 0)
  numbered_all {l} {x} {count} {v} n e =
      subst (λ (u : ℕ). ClassesBy same u count (λ z. get_or l z 0)) e n.by
