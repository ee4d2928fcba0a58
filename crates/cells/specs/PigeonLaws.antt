-- Numbers agree in the digits of a mask exactly when the mask leaves the same of both. Pigeonhole for codes: numbers that differ
-- pairwise in the digits of a mask are at most 2 to the number of its digits, since each digit of the mask splits the list in two, and
-- what is left when no digit is left is one number at most. Buckets: where each bucket holds at most n, a list has at most n times as
-- many elements as buckets. Assumes nothing.
use Rattle.std.specs.Prelude.{◌≡◌, true, false, not}
use Rattle.std.proofs.Math.Path.{refl}
use Rattle.std.proofs.Common.{sym, ap, ◌∙◌, subst, ⊎_elim, pow-suc}
use Rattle.std.proofs.Math.Bool.{Bool}
use mathlib.Core.List.{List, [], ◌∷◌}
use Prim.Native.Nat.{ℕ, zero, suc, ◌+◌, ◌*◌, ◌^◌, ◌≤◌, ◌<◌}
use native.Mathlib.Omega.{arith}
use Rattle.std.proofs.Math.Nat.{suc-mul}
use Rattle.std.proofs.Math.Decide.{dec_lt}
use Rattle.std.specs.Int.Bits.{bit_and}
use Rattle.std.proofs.Math.Dec.{eqb}
use Rattle.std.proofs.Math.ListN.{length}
use borrow.Author.Tests.{eq-eqb, eqb-true, eqb-false, not-true}
use Rattle.bits.specs.Logic.{andb, bit}
use Rattle.bits.specs.Digit.{on}
use Rattle.bits.specs.DigitLaws.{on_and, on_above, equal_digits}
use Rattle.bits.specs.LogicLaws.{never_both, and_true, and_false}
use Rattle.bits.specs.Count.{count}
use Rattle.bits.specs.CountLaws.{less_or_equal}
use Rattle.cells.specs.Codes.{Agree}
use Rattle.cells.specs.ListLaws.{all_both, all_map, all_part, pairs_map, pairs_part, part-has, part_length}
use Rattle.cells.specs.Lists.{All, Pairs, part}

-- numbers agree in the digits of a mask exactly when the mask leaves the same of both
pub agree_and : (u mask a b : ℕ) → mask < 2 ^ u → Agree u mask a b → bit_and a mask ≡ bit_and b mask
agree_and u mask a b h g = equal_digits (bit_and a mask) (bit_and b mask) (λ k. on_and a mask k ∙ go k (on mask k) refl ∙ sym (on_and b mask k))
  where
    go : (k : ℕ) (m : Bool) → on mask k ≡ m → andb (on a k) m ≡ andb (on b k) m
    go k true e = ap (λ (x : Bool). andb x true) (g k (low k e) e)
      where
        low : (k : ℕ) → on mask k ≡ true → k < u
        low k e = elim (dec_lt k u) as (λ _. k < u) [ yes l ↦ l | no l ↦ absurd (never_both e (on_above u mask k h (omega arith))) ]
    go k false e = and_false (on a k) ∙ sym (and_false (on b k))

pub and_agree : (u mask a b : ℕ) → bit_and a mask ≡ bit_and b mask → Agree u mask a b
and_agree u mask a b e i l m = sym (and_true (on a i)) ∙ sym (ap (λ (x : Bool). andb (on a i) x) m) ∙ sym (on_and a mask i) ∙ ap (λ (x : ℕ). on x i) e ∙ on_and b mask i ∙ ap
    (λ (x : Bool). andb (on b i) x) m ∙ and_true (on b i)

pub no_two : (R : ℕ → ℕ → Type 0) (xs : List ℕ) → ((x y : ℕ) → R x y → ⊥) → Pairs R xs → length xs ≤ 1
no_two R [] h p = omega arith
no_two R (x ∷ []) h p = omega arith
no_two R (x ∷ y ∷ xs) h p = absurd (h x y p.0.0)

module _ (f : ℕ → ℕ) (mask : ℕ) where
  abbrev Apart : ℕ → ℕ → ℕ → Type 0
  Apart u x y = Agree u mask (f x) (f y) → ⊥

  pub pigeon : (u : ℕ) (xs : List ℕ) → Pairs (Apart u) xs → length xs ≤ 2 ^ count (on mask) u
  unfolding count
  pigeon zero xs p = no_two (Apart 0) xs (λ x y r. r (λ i l. absurd (omega arith))) p
  pigeon (suc u) xs p = go (on mask u) refl (pigeon u)
    where
      Goal : Bool → Type 0
      Goal b = length xs ≤ 2 ^ (count (on mask) u + bit b)

      digit : ℕ → Bool
      digit x = on (f x) u

      more : (x y : ℕ) → (on mask u ≡ true → digit x ≡ digit y) → Apart (suc u) x y → Apart u x y
      more x y e r g = r (λ i l m. ⊎_elim (λ k. g i k m) (λ q. subst (λ (z : ℕ). on (f x) z ≡ on (f y) z) (sym q) (e (subst (λ (z : ℕ). on mask z ≡ true) q m))) (less_or_equal i u l))

      half : (d : ℕ → Bool) (b : Bool) → ((x : ℕ) → d x ≡ true → digit x ≡ b) → ((ys : List ℕ) → Pairs (Apart u) ys → length ys ≤ 2 ^ count (on mask) u) → length (part d xs) ≤ 2 ^ count (on mask) u
      half d b e ih = ih (part d xs) (pairs_map (λ (x : ℕ). d x ≡ true) (Apart (suc u)) (Apart u) (part d xs) (λ x y p q. more x y (λ m. e x p ∙ sym (e y q))) (part-has d xs)
          (pairs_part (Apart (suc u)) d xs p))

      go : (b : Bool) → on mask u ≡ b → ((ys : List ℕ) → Pairs (Apart u) ys → length ys ≤ 2 ^ count (on mask) u) → Goal b
      go false e ih =
          let r = ih xs (pairs_map (λ (x : ℕ). Unit {0}) (Apart (suc u)) (Apart u) xs (λ x y p q. more x y (λ m. absurd (never_both m e))) (each xs) p) in
          let z : count (on mask) u + 0 ≡ count (on mask) u = omega arith in
          rw z r
        where
          each : (xs : List ℕ) → All (λ (x : ℕ). Unit {0}) xs
          each [] = tt
          each (x ∷ xs) = (tt, each xs)
      go true e ih =
          let a = half digit true (λ x q. q) ih in
          let b = half (λ (x : ℕ). not (digit x)) false (λ x q. not-true (digit x) q) ih in
          let s = part_length digit xs in
          let z : count (on mask) u + 1 ≡ suc (count (on mask) u) = omega arith in
          let t : 2 ^ suc (count (on mask) u) ≡ 2 ^ count (on mask) u * 2 = pow-suc 2 (count (on mask) u) in
          rw z (omega arith)

shorter : (p : ℕ → Bool) (ys : List ℕ) → length (part p ys) ≤ length ys
shorter p ys = let h = part_length p ys in omega arith

-- Buckets: among numbers with P, of which at most n pairwise in relation R have the same key, there are at least
-- length / n with different keys.
module _ (P : ℕ → Type 0) (R : ℕ → ℕ → Type 0) (key : ℕ → ℕ) (n : ℕ) (full : (k : ℕ) (xs : List ℕ) → All (λ (x : ℕ). P x × (key x ≡ k)) xs → Pairs R xs → length xs ≤ n) where
  abbrev Keys : ℕ → ℕ → Type 0
  Keys x y = key x ≡ key y → ⊥

  abbrev Buckets : List ℕ → Type 0
  Buckets xs = (zs : List ℕ) × All P zs × Pairs Keys zs × (length xs ≤ length zs * n) × ((Q : ℕ → Bool) → All (λ (x : ℕ). Q x ≡ true) xs → All (λ (x : ℕ). Q x ≡ true) zs)

  abbrev Within : ℕ → Type 0
  Within size = (xs : List ℕ) → length xs ≤ size → All P xs → Pairs R xs → Buckets xs

  -- the head's bucket, and the buckets of what is not in it
  bucket_more : (size : ℕ) → Within size → Within (suc size)
  unfolding part
  bucket_more size ih [] l a p = ([], tt, tt, omega arith, λ Q q. tt)
  bucket_more size ih (x ∷ xs) l a p =
      let h = part_length same (x ∷ xs) in
      let r = ih others (small (eq-eqb (key x) (key x) refl)) (all_part P other (x ∷ xs) a) (pairs_part R other (x ∷ xs) p) in
      let b : length (part same (x ∷ xs)) ≤ n = full (key x) (part same (x ∷ xs))
      (all_both P (λ (y : ℕ). key y ≡ key x) (part same (x ∷ xs)) (all_part P same (x ∷ xs) a)
      (all_map (λ (y : ℕ). same y ≡ true) (λ (y : ℕ). key y ≡ key x) (part same (x ∷ xs)) (λ y e. eqb-true (key y) (key x) e) (part-has same (x ∷ xs)))) (pairs_part R same (x ∷ xs) p) in (
        x ∷ r.0,
        (a.0, r.1),
        (all_map (λ (y : ℕ). other y ≡ true) (Keys x) r.0 (λ y e q. eqb-false (key y) (key x) (not-true (same y) e) (sym q)) (r.4 other (part-has other (x ∷ xs))), r.2),
        (let c = r.3 in let d : suc (length r.0) * n ≡ length r.0 * n + n = suc-mul (length r.0) n in omega arith),
        λ Q q. (q.0, r.4 Q (all_part (λ (y : ℕ). Q y ≡ true) other (x ∷ xs) q)),
      )
    where
      same : ℕ → Bool
      same y = eqb (key y) (key x)

      other : ℕ → Bool
      other y = not (same y)

      others : List ℕ
      others = part other (x ∷ xs)

      small : same x ≡ true → length others ≤ size
      small e = rw e (let z = shorter other xs in omega arith)

  buckets_within : (size : ℕ) → Within size
  buckets_within zero [] l a p = ([], tt, tt, omega arith, λ Q q. tt)
  buckets_within zero (x ∷ xs) l a p = absurd (omega arith)
  buckets_within (suc size) xs l a p = bucket_more size (buckets_within size) xs l a p

  pub buckets : (xs : List ℕ) → All P xs → Pairs R xs → (zs : List ℕ) × All P zs × Pairs Keys zs × (length xs ≤ length zs * n)
  buckets xs a p = let r = buckets_within (length xs) xs (omega arith) a p in (r.0, r.1, r.2, r.3)
