-- How the count of kinds goes on: a vertex whose class of q is met already changes nothing, and any other is one more of its part. The
-- numbers counted are numbers of kinds. Assumes nothing.
use Rattle.std.specs.Prelude.{◌≡◌, refl, Bool, true, false, List, [], ◌∷◌, ℕ, ◌+◌, ◌*◌, ◌≤◌, ◌<◌, eqb, length, set}
use Rattle.std.proofs.Common.{sym, ap, ◌∙◌, subst, arith, length-set, get_or-set_same, get_or-set_other, eq-eqb}
use Rattle.std.proofs.Math.Decide.{ℕ_discrete}
use Rattle.limits.specs.Limits.{max_vertices}
use Rattle.bits.specs.Logic.{orb}
use Rattle.bits.specs.Digit.{on}
use Rattle.bits.specs.LogicLaws.{never_both, or_true}
use Rattle.cells.specs.ListLaws.{all_map}
use Rattle.cells.specs.Lists.{All}
use Rattle.cells.specs.Sets.{With}
use Rattle.problem.specs.Problem.{label_at, part_of, item}
use Rattle.lowerbounds.specs.Reasons.{FewKinds}
use Rattle.lowerbounds.specs.Counting.{Met, Differ, Found, Counting, KindsSoFar}

module _ (cl : List ℕ) (o q : ℕ) where
  -- ======== one class and one part
  found_none : (l p s n : ℕ) → n ≡ 0 → Found cl o l q p 0 s n
  found_none l p s n e = record { vertices = []; met = tt; differ = tt; counted = sym e; few = omega arith }

  met_later : (l p x s w : ℕ) (ys : List ℕ) → ((k : ℕ) → on s k ≡ true → on w k ≡ true) → All (Met cl o l q p x s) ys → All (Met cl o l q p (x + 1) w) ys
  met_later l p x s w ys grows = all_map (Met cl o l q p x s) (Met cl o l q p (x + 1) w) ys (λ y i. ((let z = i.0 in omega arith), i.1, grows _ i.2, i.3))

  -- the set grows and the number stays
  found-later : (l p x s w n m : ℕ) → ((k : ℕ) → on s k ≡ true → on w k ≡ true) → m ≡ n → Found cl o l q p x s n → Found cl o l q p (x + 1) w m
  found-later l p x s w n m grows e f = record {
    vertices = f.vertices;
    met = met_later l p x s w f.vertices grows f.met;
    differ = f.differ;
    counted = f.counted ∙ sym e;
    few = let z = f.few in omega arith;
  }

  -- x has a class of q that is not in the set s
  found_more : (l p x s w n : ℕ) → label_at cl o x ≡ l → part_of cl q x ≡ p → on s (label_at cl q x) ≡ false → on w (label_at cl q x) ≡ true
      → ((k : ℕ) → on s k ≡ true → on w k ≡ true) → Found cl o l q p x s n → Found cl o l q p (x + 1) w (n + 1)
  found_more l p x s w n el ep off in-w grows f = record {
    vertices = x ∷ f.vertices;
    met = ((omega arith, el, in-w, ep), met_later l p x s w f.vertices grows f.met);
    differ = (all_map (Met cl o l q p x s) (Differ cl q x) f.vertices (λ y i m. never_both (subst (λ (z : ℕ). on s z ≡ true) (sym m) i.2) off) f.met, f.differ);
    counted = let z = f.counted in omega arith;
    few = let z = f.few in omega arith;
  }

  found_kinds : (l p x s n : ℕ) → x ≤ max_vertices → Found cl o l q p x s n → FewKinds cl x o l q n
  found_kinds l p x s n h f = record {
    kinds = (
      p,
      f.vertices,
      all_map (Met cl o l q p x s) (λ (y : ℕ). (y < x) × (label_at cl o y ≡ l) × (part_of cl q y ≡ p)) f.vertices (λ y i. (i.0, i.1, i.3)) f.met,
      f.differ,
      f.counted,
    );
    few = let z = f.few in omega arith;
  }

  -- ======== the table
  pub counting_start : (seen g : List ℕ) → length seen ≡ max_vertices → length g ≡ max_vertices * max_vertices → ((i : ℕ) → item g i ≡ 0) → Counting cl o q 0 seen g
  counting_start seen g a b zero-all = record { sets = a; long = b; found = λ l p _ _. found_none l p _ _ (zero-all _) }

  pub counting_skip : (x : ℕ) (seen g : List ℕ) → Counting cl o q x seen g → Counting cl o q (x + 1) seen g
  counting_skip x seen g s = record { sets = s.sets; long = s.long; found = λ l p h k. found-later l p x _ _ _ _ (λ _ e. e) refl (s.found l p h k) }

  -- a class k of q that is not met so far in class t of o; d is its part
  pub counting_new : (x t k : ℕ) (seen g : List ℕ) → t ≡ label_at cl o x → t < max_vertices → k ≡ label_at cl q x → Counting cl o q x seen g
      → (d w : ℕ) → on (item seen t) k ≡ false → With (item seen t) k w → d ≡ part_of cl q x → d < max_vertices
      → Counting cl o q (x + 1) (set seen t w) (set g (t * max_vertices + d) (item g (t * max_vertices + d) + 1))
  counting_new x t k seen g et ht ek s d w off is ed hd = record {
    sets = length-set seen t w ∙ s.sets;
    long = length-set g (t * 32 + d) _ ∙ s.long;
    found = λ l p h i. in-class l p h i (ℕ_discrete l t) (ℕ_discrete p d);
  }
    where
      seen' : List ℕ
      seen' = set seen t w

      g' : List ℕ
      g' = set g (t * 32 + d) (item g (t * 32 + d) + 1)

      own-set : item seen' t ≡ w
      own-set = get_or-set_same seen t w 0 (let z = s.sets in omega arith)

      own-number : item g' (t * 32 + d) ≡ item g (t * 32 + d) + 1
      own-number = get_or-set_same g (t * 32 + d) _ 0 (let z = s.long in omega arith)

      other-number : (i : ℕ) → (i ≡ t * 32 + d → ⊥) → item g' i ≡ item g i
      other-number i ne = get_or-set_other g (t * 32 + d) i _ 0 ne

      grows : (i : ℕ) → on (item seen t) i ≡ true → on w i ≡ true
      grows i e = is i ∙ ap (λ (b : Bool). orb b (eqb i k)) e

      has : on w k ≡ true
      has = is k ∙ ap (λ (b : Bool). orb (on (item seen t) k) b) (eq-eqb k k refl) ∙ or_true (on (item seen t) k)

      in-part : (p : ℕ) → p < 32 → Dec (p ≡ d) → Found cl o t q p (x + 1) w (item g' (t * 32 + p))
      in-part p h (no ne) = found-later t p x _ w _ _ grows (other-number (t * 32 + p) (λ e. ne (omega arith))) (s.found t p ht h)
      in-part p h (yes e) = subst (λ (z : ℕ). Found cl o t q z (x + 1) w (item g' (t * 32 + z))) (sym e)
          (subst (Found cl o t q d (x + 1) w) (sym own-number)
          (found_more t d x _ w _ (sym et) (sym ed) (subst (λ (z : ℕ). on (item seen t) z ≡ false) ek off) (subst (λ (z : ℕ). on w z ≡ true) ek has) grows (s.found t d ht hd)))

      in-class : (l p : ℕ) → l < 32 → p < 32 → Dec (l ≡ t) → Dec (p ≡ d) → Found cl o l q p (x + 1) (item seen' l) (item g' (l * 32 + p))
      in-class l p h i (no ne) _ = subst (λ (z : ℕ). Found cl o l q p (x + 1) z (item g' (l * 32 + p))) (sym (get_or-set_other seen t l w 0 ne))
          (found-later l p x _ _ _ _ (λ _ e. e) (other-number (l * 32 + p) (λ e. ne (omega arith))) (s.found l p h i))
      in-class l p h i (yes e) m = subst (λ (z : ℕ). Found cl o z q p (x + 1) (item seen' z) (item g' (z * 32 + p))) (sym e)
          (subst (λ (z : ℕ). Found cl o t q p (x + 1) z (item g' (t * 32 + p))) (sym own-set) (in-part p i m))

  -- ======== the largest numbers
  pub kinds_start : (r : List ℕ) → length r ≡ max_vertices → ((i : ℕ) → item r i ≡ 0) → KindsSoFar cl o q 0 r
  kinds_start r e zero-all = record { long = e; each = λ l h. found_kinds l 0 0 0 _ (omega arith) (found_none l 0 0 _ (zero-all l)) }

  later_kinds : (l x g : ℕ) → FewKinds cl x o l q g → FewKinds cl (x + 1) o l q g
  later_kinds l x g f =
      let k = f.kinds in record {
        kinds = (
          k.0,
          k.1,
          all_map (λ (y : ℕ). (y < x) × (label_at cl o y ≡ l) × (part_of cl q y ≡ k.0)) (λ (y : ℕ). (y < x + 1) × (label_at cl o y ≡ l) × (part_of cl q y ≡ k.0)) k.1
              (λ y i. ((let z = i.0 in omega arith), i.1, i.2)) k.2,
          k.3,
          k.4,
        );
        few = f.few;
      }

  pub kinds_skip : (x : ℕ) (r : List ℕ) → KindsSoFar cl o q x r → KindsSoFar cl o q (x + 1) r
  kinds_skip x r s = record { long = s.long; each = λ l h. later_kinds l x _ (s.each l h) }

  -- class t has as many kinds as the table says of it and of part d
  pub kinds_raised : (x t d n : ℕ) (seen g r : List ℕ) → x < max_vertices → t < max_vertices → d < max_vertices
      → Counting cl o q (x + 1) seen (set g (t * max_vertices + d) n) → KindsSoFar cl o q x r → KindsSoFar cl o q (x + 1) (set r t n)
  kinds_raised x t d n seen g r hx ht hd c s = record { long = length-set r t n ∙ s.long; each = λ l h. go l h (ℕ_discrete l t) }
    where
      own-number : item (set g (t * 32 + d) n) (t * 32 + d) ≡ n
      own-number = get_or-set_same g (t * 32 + d) n 0 (let a = c.long in let b = length-set g (t * 32 + d) n in omega arith)

      here : FewKinds cl (x + 1) o t q (item (set r t n) t)
      here = subst (FewKinds cl (x + 1) o t q) (own-number ∙ sym (get_or-set_same r t n 0 (let z = s.long in omega arith)))
          (found_kinds t d (x + 1) _ _ (omega arith) (c.found t d ht hd))

      go : (l : ℕ) → l < 32 → Dec (l ≡ t) → FewKinds cl (x + 1) o l q (item (set r t n) l)
      go l h (no ne) = subst (FewKinds cl (x + 1) o l q) (sym (get_or-set_other r t l n 0 ne)) (later_kinds l x _ (s.each l h))
      go l h (yes a) = subst (λ (z : ℕ). FewKinds cl (x + 1) o z q (item (set r t n) z)) (sym a) here
