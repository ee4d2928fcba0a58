-- Classes under a relation that is an equivalence, as laws stated once for local and for global classes: two numbers have
-- one class exactly when they are related, the class numbers are those below the number of classes, and each of them is
-- taken. Assumes nothing.
use Rattle.std.specs.Prelude.{◌≡◌, Bool, true, false, List, eqb, get_or}
use Rattle.std.proofs.Math.Path.{refl, sym, ap, ap₂}
use Rattle.std.proofs.Common.{subst, ◌∙◌}
use Rattle.std.proofs.Math.Logic.{⊎_elim}
use Prim.Native.Nat.{ℕ, zero, suc, ◌+◌, ◌-◌, ◌≤◌, ◌<◌}
use Rattle.std.proofs.Math.Decide.{dec_lt}
use native.Mathlib.Omega.{arith}
use Rattle.std.proofs.Math.Nat.{add-zero, add-suc}
use borrow.Author.Tests.{eq-eqb, ne_eqb, eqb-true}
use Rattle.bits.specs.Logic.{pick}
use Rattle.bits.specs.LogicLaws.{either}
use Rattle.classes.specs.Cases.{not_both, same_test}
use Rattle.classes.specs.Classes.{first_from, first_like, class_count, class_of}

-- ---- the first related number of a range
-- what the search for a number related to x finds among the k numbers from y on: f is the first, or y + k
pub record First (same : ℕ → ℕ → Bool) (x k y f : ℕ) : Type 0 where
  pub from_start : y ≤ f
  pub to_end : f ≤ y + k
  pub related : f < y + k → same f x ≡ true
  pub none_before : (z : ℕ) → y ≤ z → z < f → same z x ≡ false

module _ (same : ℕ → ℕ → Bool) (x : ℕ) where
  none_to_search : (y : ℕ) → First same x 0 y y
  none_to_search y =
      record {
        from_start = omega arith;
        to_end = omega arith;
        related = λ l. absurd (omega arith);
        none_before = λ z a b. absurd (omega arith);
      }

  found_here : (k y : ℕ) → same y x ≡ true → First same x (suc k) y y
  found_here k y e =
      record {
        from_start = omega arith;
        to_end = omega arith;
        related = λ l. e;
        none_before = λ z a b. absurd (omega arith);
      }

  found-later : (k y f : ℕ) → same y x ≡ false → First same x k (suc y) f → First same x (suc k) y f
  found-later k y f e p =
      let from_next : suc y ≤ f = p.from_start in
      let up_to : f ≤ suc y + k = p.to_end in
      record {
        from_start = omega arith;
        to_end = omega arith;
        related = λ l. p.related (omega arith);
        none_before = λ z a b.
            elim (dec_lt y z) as (λ _. same z x ≡ false) [
              | yes l ↦ p.none_before z l b
              | no g ↦ (let q : z ≡ y = omega arith in subst (λ (w : ℕ). same w x ≡ false) (sym q) e)
            ];
      }

  first_from_lem : (k y : ℕ) → First same x k y (first_from same x k y)
  unfolding first_from
  first_from_lem zero y = none_to_search y
  first_from_lem (suc k) y =
      let later : First same x k (suc y) (first_from same x k (suc y)) = first_from_lem k (suc y) in
      ⊎_elim
      (λ e. rw e (found_here k y e))
      (λ e. rw e (found-later k y (first_from same x k (suc y)) e later))
      (either (same y x))

  -- there is one such number only
  pub first_unique : (k y f g : ℕ) → First same x k y f → First same x k y g → f ≡ g
  first_unique k y f g p q =
      let none : (u v : ℕ) → First same x k y u → First same x k y v → u < v → ⊥
      = λ u v a b l.
      let end : v ≤ y + k = b.to_end in
      not_both (same u x) (a.related (omega arith)) (b.none_before u a.from_start l) in
      elim (dec_lt f g) as (λ _. f ≡ g) [
        | yes l ↦ absurd (none f g p q l)
        | no a ↦ elim (dec_lt g f) as (λ _. f ≡ g) [ yes l ↦ absurd (none g f q p l) | no b ↦ omega arith ]
      ]

  pub first_like_lem : First same x x 0 (first_like same x)
  unfolding first_like
  first_like_lem = first_from_lem x 0

-- ---- how many classes
at_most_one : (b : Bool) → pick b 1 0 ≤ 1
at_most_one true = omega arith
at_most_one false = omega arith

module _ (same : ℕ → ℕ → Bool) where
  pub first_counts : (v : ℕ) → first_like same v ≡ v → class_count same (suc v) ≡ class_count same v + 1
  unfolding class_count
  first_counts v e = rw (eq-eqb (first_like same v) v e)

  pub other_counts : (v : ℕ) → (first_like same v ≡ v → ⊥) → class_count same (suc v) ≡ class_count same v
  unfolding class_count
  other_counts v h = rw (ne_eqb (first_like same v) v h) (omega arith)

  pub count_most : (v : ℕ) → class_count same v ≤ v
  unfolding class_count
  count_most zero = omega arith
  count_most (suc v) =
      let before : class_count same v ≤ v = count_most v in
      let one : pick (eqb (first_like same v) v) 1 0 ≤ 1 = at_most_one (eqb (first_like same v) v) in
      omega arith

  grows_by : (v k : ℕ) → class_count same v ≤ class_count same (v + k)
  unfolding class_count
  grows_by v zero = rw add-zero (omega arith)
  grows_by v (suc k) = let before : class_count same v ≤ class_count same (v + k) = grows_by v k in rw add-suc (omega arith)

  pub count_grows : (u v : ℕ) → u ≤ v → class_count same u ≤ class_count same v
  count_grows u v l =
      let e : u + (v - u) ≡ v = omega arith in
      subst (λ (w : ℕ). class_count same u ≤ class_count same w) e (grows_by u (v - u))

  -- first members are counted one by one
  first_below : (u v : ℕ) → first_like same u ≡ u → u < v → class_count same u < class_count same v
  first_below u v e l =
      let next : class_count same (suc u) ≡ class_count same u + 1 = first_counts u e in
      let more : class_count same (suc u) ≤ class_count same v = count_grows (suc u) v l in
      omega arith

  first_member : (u v : ℕ) → first_like same u ≡ u → first_like same v ≡ v → class_count same u ≡ class_count same v → u ≡ v
  first_member u v p q e =
      elim (dec_lt u v) as (λ _. u ≡ v) [
        | yes l ↦ (let m : class_count same u < class_count same v = first_below u v p l in absurd (omega arith))
        | no g ↦ elim (dec_lt v u) as (λ _. u ≡ v) [
          | yes l ↦ (let m : class_count same v < class_count same u = first_below v u q l in absurd (omega arith))
          | no h ↦ omega arith
        ]
      ]

  pub class_of_first : (u : ℕ) → first_like same u ≡ u → class_of same u ≡ class_count same u
  unfolding class_of
  class_of_first u e = ap (class_count same) e

-- ---- an equivalence
pub record Equivalence (same : ℕ → ℕ → Bool) : Type 0 where
  pub self : (x : ℕ) → same x x ≡ true
  pub back : (x y : ℕ) → same x y ≡ true → same y x ≡ true
  pub chain : (x y z : ℕ) → same x y ≡ true → same y z ≡ true → same x z ≡ true

-- numbers with equal keys are related
pub same_key_lem : (keys : List ℕ) → Equivalence (λ x y. eqb (get_or keys x 0) (get_or keys y 0))
same_key_lem keys =
    record {
      self = λ x. eq-eqb (get_or keys x 0) (get_or keys x 0) refl;
      back = λ x y e. eq-eqb (get_or keys y 0) (get_or keys x 0) (sym (eqb-true (get_or keys x 0) (get_or keys y 0) e));
      chain = λ x y z e f.
          eq-eqb (get_or keys x 0) (get_or keys z 0)
          (eqb-true (get_or keys x 0) (get_or keys y 0) e ∙ eqb-true (get_or keys y 0) (get_or keys z 0) f);
    }

-- some number below v has the class c, and is its first member
pub record Taken (same : ℕ → ℕ → Bool) (v c : ℕ) : Type 0 where
  pub member : ℕ
  pub below : member < v
  pub class : class_of same member ≡ c
  pub first : first_like same member ≡ member

module _ (same : ℕ → ℕ → Bool) (q : Equivalence same) where
  first_most : (x : ℕ) → first_like same x ≤ x
  first_most x = let m : first_like same x ≤ 0 + x = (first_like_lem same x).to_end in omega arith

  first_related : (x : ℕ) → same (first_like same x) x ≡ true
  first_related x =
      let m : first_like same x ≤ x = first_most x in
      elim (dec_lt (first_like same x) x) as (λ _. same (first_like same x) x ≡ true) [
        | yes l ↦ (first_like_lem same x).related (omega arith)
        | no g ↦ (let e : first_like same x ≡ x = omega arith in subst (λ (y : ℕ). same y x ≡ true) (sym e) (q.self x))
      ]

  first_no_later : (x y : ℕ) → same x y ≡ true → first_like same y ≤ first_like same x
  first_no_later x y e =
      elim (dec_lt (first_like same x) (first_like same y)) as (λ _. first_like same y ≤ first_like same x) [
        | yes l ↦ absurd
            (not_both (same (first_like same x) y)
            (q.chain (first_like same x) x y (first_related x) e)
            ((first_like_lem same y).none_before (first_like same x) (omega arith) l))
        | no g ↦ omega arith
      ]

  first_same : (x y : ℕ) → same x y ≡ true → first_like same x ≡ first_like same y
  first_same x y e =
      let a : first_like same y ≤ first_like same x = first_no_later x y e in
      let b : first_like same x ≤ first_like same y = first_no_later y x (q.back x y e) in
      omega arith

  first_again : (x : ℕ) → first_like same (first_like same x) ≡ first_like same x
  first_again x = first_same (first_like same x) x (first_related x)

  -- related numbers have one class, and no others
  pub related_class : (x y : ℕ) → same x y ≡ true → class_of same x ≡ class_of same y
  unfolding class_of
  related_class x y e = ap (class_count same) (first_same x y e)

  pub class_related : (x y : ℕ) → class_of same x ≡ class_of same y → same x y ≡ true
  unfolding class_of
  class_related x y e =
      let f : first_like same x ≡ first_like same y
      = first_member same (first_like same x) (first_like same y) (first_again x) (first_again y) e in
      q.chain x (first_like same x) y
      (q.back (first_like same x) x (first_related x))
      (subst (λ (z : ℕ). same z y ≡ true) (sym f) (first_related y))

  pub class_test : (x y : ℕ) → eqb (class_of same x) (class_of same y) ≡ same x y
  class_test x y =
      same_test (eqb (class_of same x) (class_of same y)) (same x y)
      (λ e. class_related x y (eqb-true (class_of same x) (class_of same y) e))
      (λ e. eq-eqb (class_of same x) (class_of same y) (related_class x y e))

  -- class numbers are below the number of classes
  pub class_below : (v x : ℕ) → x < v → class_of same x < class_count same v
  unfolding class_of
  class_below v x l =
      let m : first_like same x ≤ x = first_most x in
      first_below same (first_like same x) v (first_again x) (omega arith)

  -- a number that is related to an earlier one has that one's class, and makes no new one
  pub class_of_earlier : (x y : ℕ) → first_like same x ≡ y → class_of same x ≡ class_of same y
  class_of_earlier x y e = related_class x y (q.back y x (subst (λ (z : ℕ). same z x ≡ true) e (first_related x)))

  taken_more : (v c : ℕ) → Taken same v c → Taken same (suc v) c
  taken_more v c t =
      let l : t.member < v = t.below in
      record { member = t.member; below = omega arith; class = t.class; first = t.first }

  -- each class number is taken
  pub class_taken : (v c : ℕ) → c < class_count same v → Taken same v c
  unfolding class_count
  class_taken zero c l = absurd (omega arith)
  class_taken (suc v) c l =
      elim (dec_lt c (class_count same v)) as (λ _. Taken same (suc v) c) [
        | yes h ↦ taken_more v c (class_taken v c h)
        | no g ↦ ⊎_elim
            (λ e.
            let m : first_like same v ≡ v = eqb-true (first_like same v) v e in
            let n : c < class_count same v + 1 = rw e at l in
            let k : c ≡ class_count same v = omega arith in
            record { member = v; below = omega arith; class = class_of_first same v m ∙ sym k; first = m })
            (λ e. let n : c < class_count same v + 0 = rw e at l in absurd (omega arith))
            (either (eqb (first_like same v) v))
      ]

-- ---- relations that agree below v make the same classes there
module _ (same like : ℕ → ℕ → Bool) where
  first_agrees : (x k y f : ℕ) → ((z : ℕ) → z < y + k → same z x ≡ like z x) → First same x k y f → First like x k y f
  first_agrees x k y f h p =
      let end : f ≤ y + k = p.to_end in
      record {
        from_start = p.from_start;
        to_end = p.to_end;
        related = λ l. sym (h f l) ∙ p.related l;
        none_before = λ z a b. sym (h z (omega arith)) ∙ p.none_before z a b;
      }

  like-agrees : (x : ℕ) → ((z : ℕ) → z < x → same z x ≡ like z x) → first_like same x ≡ first_like like x
  like-agrees x h =
      first_unique like x x 0 (first_like same x) (first_like like x)
      (first_agrees x x 0 (first_like same x) (λ z l. h z (omega arith)) (first_like_lem same x))
      (first_like_lem like x)

  pub count-agrees : (v : ℕ) → ((x y : ℕ) → x < v → y < v → same x y ≡ like x y) → class_count same v ≡ class_count like v
  unfolding class_count
  count-agrees zero h = refl
  count-agrees (suc v) h =
      ap₂ (λ (c f : ℕ). c + pick (eqb f v) 1 0)
      (count-agrees v (λ x y a b. h x y (omega arith) (omega arith)))
      (like-agrees v (λ z l. h z v (omega arith) (omega arith)))

  pub class_agrees : (v x : ℕ) → ((x y : ℕ) → x < v → y < v → same x y ≡ like x y) → x < v → class_of same x ≡ class_of like x
  unfolding class_of
  class_agrees v x h l =
      let f : first_like same x ≡ first_like like x = like-agrees x (λ z g. h z x (omega arith) l) in
      let m : first_like like x ≤ 0 + x = (first_like_lem like x).to_end in
      ap (class_count same) f ∙ count-agrees (first_like like x) (λ y z a b. h y z (omega arith) (omega arith))
