-- Fewer numbers than there are places leave a place out: a number takes one place at most, so no more places are taken than there are
-- numbers. Assumes nothing.
use Rattle.std.specs.Prelude.{◌≡◌, refl, Bool, true, false, ℕ, zero, suc, ◌+◌, ◌≤◌, ◌<◌, eqb}
use Rattle.std.proofs.Common.{sym, ap, ◌∙◌, arith, eq-eqb, ne_eqb}
use Rattle.std.proofs.Math.Decide.{ℕ_discrete}
use Rattle.bits.specs.Logic.{orb, bit}
use Rattle.bits.specs.LogicLaws.{never_both, or_true}
use Rattle.bits.specs.Count.{count}

-- whether j is one of the first n numbers of f
unfoldable hit : (ℕ → ℕ) → ℕ → ℕ → Bool
hit f zero j = false
hit f (suc n) j = orb (hit f n j) (eqb (f n) j)

hit_each : (f : ℕ → ℕ) (n j i : ℕ) → i < n → f i ≡ j → hit f n j ≡ true
unfolding hit
hit_each f zero j i h e = absurd (omega arith)
hit_each f (suc n) j i h e = at (ℕ_discrete i n) (λ l. hit_each f n j i l e)
  where
    at : Dec (i ≡ n) → (i < n → hit f n j ≡ true) → orb (hit f n j) (eqb (f n) j) ≡ true
    at (yes q) below = ap (orb (hit f n j)) (eq-eqb (f n) j (sym (ap f q) ∙ e)) ∙ or_true (hit f n j)
    at (no q) below = ap (λ (b : Bool). orb b (eqb (f n) j)) (below (omega arith))

-- ---- how many places are hit
none_before : (x n : ℕ) → n ≤ x → count (eqb x) n ≡ 0
unfolding count
none_before x zero h = refl
none_before x (suc n) h = let c = none_before x n (omega arith) in let b : bit (eqb x n) ≡ 0 = ap bit (ne_eqb x n (λ e. omega arith)) in omega arith

one_place : (x n : ℕ) → count (eqb x) n ≤ 1
unfolding count
one_place x zero = omega arith
one_place x (suc n) = at (ℕ_discrete x n) (one_place x n)
  where
    at : Dec (x ≡ n) → count (eqb x) n ≤ 1 → count (eqb x) n + bit (eqb x n) ≤ 1
    at (yes e) c = let z = none_before x n (omega arith) in let b : bit (eqb x n) ≡ 1 = ap bit (eq-eqb x n e) in omega arith
    at (no e) c = let b : bit (eqb x n) ≡ 0 = ap bit (ne_eqb x n e) in omega arith

either_count : (p q : ℕ → Bool) (n : ℕ) → count (λ j. orb (p j) (q j)) n ≤ count p n + count q n
unfolding count
either_count p q zero = omega arith
either_count p q (suc n) = let c = either_count p q n in let b = bits (p n) (q n) in omega arith
  where
    bits : (a b : Bool) → bit (orb a b) ≤ bit a + bit b
    bits true true = omega arith
    bits true false = omega arith
    bits false true = omega arith
    bits false false = omega arith

none_hit : (f : ℕ → ℕ) (n : ℕ) → count (hit f 0) n ≡ 0
unfolding hit count
none_hit f zero = refl
none_hit f (suc n) = let c = none_hit f n in omega arith

hit-most : (f : ℕ → ℕ) (k n : ℕ) → count (hit f k) n ≤ k
unfolding hit
hit-most f zero n = let z = none_hit f n in omega arith
hit-most f (suc k) n =
    let c = hit-most f k n in
    let o = one_place (f k) n in
    let e = either_count (hit f k) (eqb (f k)) n in
    omega arith

not_all : (p : ℕ → Bool) (n : ℕ) → count p n < n → (j : ℕ) × (j < n) × (p j ≡ false)
unfolding count
not_all p zero h = absurd (omega arith)
not_all p (suc n) h = at (p n) refl (not_all p n)
  where
    at : (b : Bool) → p n ≡ b → (count p n < n → (j : ℕ) × (j < n) × (p j ≡ false)) → (j : ℕ) × (j < suc n) × (p j ≡ false)
    at true e below =
        let b : bit (p n) ≡ 1 = ap bit e in
        let w = below (omega arith) in
        let z = w.1 in
        (w.0, omega arith, w.2)
    at false e below = (n, omega arith, e)

pub missed : (f : ℕ → ℕ) (k n : ℕ) → k < n → (j : ℕ) × (j < n) × ((i : ℕ) → i < k → f i ≡ j → ⊥)
missed f k n h =
    let c = hit-most f k n in
    let w = not_all (hit f k) n (omega arith) in
    (w.0, w.1, λ i b e. never_both (hit_each f k w.0 i b e) w.2)
