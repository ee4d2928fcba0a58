-- Laws of ranks: the digits of a rank are those of the set turned round, so that the set with rank r is the rank of r; the earlier
-- set has the greater rank. Assumes nothing.
use Rattle.std.specs.Prelude.{◌≡◌, refl, Bool, true, false, ℕ, zero, suc, ◌+◌, ◌-◌, ◌*◌, ◌/◌, ◌%◌, ◌^◌, ◌≤◌, ◌<◌, eqb}
use Rattle.std.proofs.Common.{sym, ap, ◌∙◌, pow-suc, arith, add-one, one-add, pow_mono, shr-shr}
use Rattle.std.proofs.Math.Decide.{dec_lt, ℕ_discrete}
use Rattle.std.proofs.Math.Nat.{zero-div}
use Rattle.bits.specs.Logic.{pick}
use Rattle.bits.specs.LogicLaws.{true_false}
use Rattle.bits.specs.Digit.{digit, on}
use Rattle.bits.specs.DigitLaws.{Binary, is0, is1, digit_binary, digit_lt, on_above, equal_digits}
use Rattle.subsets.specs.Subset.{SomeOf, Earlier}
use Rattle.subsets.specs.Rank.{rank}

-- ======== the digits of a rank
pub rank_below : (m s : ℕ) → rank m s < 2 ^ m
unfolding rank
rank_below zero s = omega arith
rank_below (suc m) s = let h = rank_below m s in let d = digit_lt s m in let p : 2 ^ suc m ≡ 2 ^ m * 2 = pow-suc 2 m in omega arith

digit-on : (s m : ℕ) (b : Bool) → on s m ≡ b → digit s m ≡ pick b 1 0
unfolding on
digit-on s m b e = go (digit_binary s m) e
  where
    go : {d : ℕ} → Binary d → eqb d 1 ≡ b → d ≡ pick b 1 0
    go is0 e = ap (λ (b : Bool). pick b 1 0) e
    go is1 e = ap (λ (b : Bool). pick b 1 0) e

-- ---- one digit more
pub rank_in : (i r s : ℕ) → on r i ≡ true → s ≡ rank i r → s * 2 + 1 ≡ rank (i + 1) r
unfolding rank
rank_in i r s e h = let d : digit r i ≡ 1 = digit-on r i true e in let z : rank (i + 1) r ≡ rank (suc i) r = ap (λ (i : ℕ). rank i r) (add-one i) in omega arith

pub rank_out : (i r s : ℕ) → on r i ≡ false → s ≡ rank i r → s * 2 ≡ rank (i + 1) r
unfolding rank
rank_out i r s e h = let d : digit r i ≡ 0 = digit-on r i false e in let z : rank (i + 1) r ≡ rank (suc i) r = ap (λ (i : ℕ). rank i r) (add-one i) in omega arith

pub rank_room : (i r : ℕ) → i < 8 → rank i r < 128
rank_room i r h = let b = rank_below i r in let p : 2 ^ i ≤ 2 ^ 7 = pow_mono {j = 7} (omega arith) in omega arith

-- ---- all digits
lowest_on : (q s m : ℕ) → on (q * 2 + digit s m) 0 ≡ on s m
unfolding on digit
lowest_on q s m = let e : (q * 2 + s / 2 ^ m % 2) / 1 % 2 ≡ s / 2 ^ m % 2 = omega arith in ap (λ (x : ℕ). eqb x 1) e

next-on : (q d j : ℕ) → d < 2 → on (q * 2 + d) (suc j) ≡ on q j
unfolding on digit
next-on q d j h =
    let e : (q * 2 + d) / 2 ≡ q = omega arith in
    ap (λ (x : ℕ). eqb (x % 2) 1)
    (ap (λ (k : ℕ). (q * 2 + d) / 2 ^ k) (sym (one-add j)) ∙ sym (shr-shr (q * 2 + d) 1 j) ∙ ap (λ (x : ℕ). x / 2 ^ j) e)

rank-on : (m s j : ℕ) → j < m → on (rank m s) j ≡ on s (m - 1 - j)
unfolding rank
rank-on zero s j h = absurd (omega arith)
rank-on (suc m) s zero h = let e : m ≡ suc m - 1 - 0 = omega arith in lowest_on (rank m s) s m ∙ ap (on s) e
rank-on (suc m) s (suc j) h =
    let e : m - 1 - j ≡ suc m - 1 - suc j = omega arith in
    next-on (rank m s) (digit s m) j (digit_lt s m) ∙ rank-on m s j (omega arith) ∙ ap (on s) e

-- the set with rank r is the rank of r
pub rank-rank : (m s : ℕ) → s < 2 ^ m → rank m (rank m s) ≡ s
rank-rank m s h = equal_digits (rank m (rank m s)) s (λ k. at k (dec_lt k m))
  where
    at : (k : ℕ) → Dec (k < m) → on (rank m (rank m s)) k ≡ on s k
    at k (yes l) =
        let e : m - 1 - (m - 1 - k) ≡ k = omega arith in
        rank-on m (rank m s) k l ∙ rank-on m s (m - 1 - k) (omega arith) ∙ ap (on s) e
    at k (no g) = on_above m (rank m (rank m s)) k (rank_below m (rank m s)) (omega arith) ∙ sym (on_above m s k h (omega arith))

-- ======== the set of no outputs has rank 0, and only it
rank-empty : (m : ℕ) → rank m 0 ≡ 0
unfolding rank digit
rank-empty zero = refl
rank-empty (suc m) = let e = rank-empty m in let d : 0 / 2 ^ m ≡ 0 = zero-div (2 ^ m) in omega arith

pub rank-some : (m s : ℕ) → SomeOf m s → SomeOf m (rank m s)
rank-some m s h = record {
  inside = rank_below m s;
  filled = go (rank m s) (rank-rank m s h.inside);
}
  where
    go : (r : ℕ) → rank m r ≡ s → 1 ≤ r
    go zero e = let z = rank-empty m in let f = h.filled in absurd (omega arith)
    go (suc r) e = omega arith

-- ======== the earlier set has the greater rank
same_below_rank : (m s t : ℕ) → ((o : ℕ) → o < m → on s o ≡ on t o) → rank m s ≡ rank m t
unfolding rank
same_below_rank zero s t h = refl
same_below_rank (suc m) s t h =
    let e = same_below_rank m s t (λ o l. h o (omega arith)) in
    let d = digit-on s m (on t m) (h m (omega arith)) in
    let f = digit-on t m (on t m) refl in
    omega arith

place_rank : (m s t p : ℕ) → p < m → on s p ≡ true → on t p ≡ false → ((o : ℕ) → o < p → on s o ≡ on t o) → rank m t < rank m s
unfolding rank
place_rank zero s t p h a b same = absurd (omega arith)
place_rank (suc m) s t p h a b same = at (ℕ_discrete p m) (λ l. place_rank m s t p l a b same)
  where
    at : Dec (p ≡ m) → (p < m → rank m t < rank m s) → rank m t * 2 + digit t m < rank m s * 2 + digit s m
    at (yes e) lower =
        let r = same_below_rank m s t (λ o l. same o (omega arith)) in
        let c : digit s m ≡ 1 = digit-on s m true (ap (on s) (sym e) ∙ a) in
        let d : digit t m ≡ 0 = digit-on t m false (ap (on t) (sym e) ∙ b) in
        omega arith
    at (no g) lower = let r = lower (omega arith) in let d = digit_lt t m in omega arith

pub earlier_rank : (m s t : ℕ) → s < 2 ^ m → Earlier s t → rank m t < rank m s
earlier_rank m s t h e = at (dec_lt e.place m)
  where
    at : Dec (e.place < m) → rank m t < rank m s
    at (yes l) = place_rank m s t e.place l e.in_first e.not_in_second e.same_below
    at (no g) = absurd (true_false (sym e.in_first ∙ on_above m s e.place h (omega arith)))
