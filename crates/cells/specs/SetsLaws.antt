-- What the code does to a set, digit by digit: or with a power of 2 puts an element in, and with its complement takes it out, and the
-- number of zeros at the end of a number that is not 0 is its lowest element. Assumes nothing.
use Rattle.bits.specs.CountLaws.{count-alike, count-le, ones-count}
use Rattle.bits.specs.Count.{count}
use Rattle.std.specs.Prelude.{◌≡◌, refl, Bool, true, false, not, ℕ, zero, suc, ◌-◌, ◌*◌, ◌/◌, ◌%◌, ◌^◌, ◌≤◌, ◌<◌, eqb}
use Rattle.std.proofs.Common.{sym, ap, ◌∙◌, arith, pow-suc, one-mul, mod-eq_of_lt, pow_pos, pow_mono, eq-eqb, ne_eqb}
use Rattle.std.proofs.Math.Decide.{ℕ_discrete, dec_lt}
use Rattle.std.specs.Int.Bits.{bit_and, bit_or}
use Rattle.std.proofs.lemmas.Nat.{and_le_l, and_le_r}
use Rattle.std.specs.Int.Count.{count_trailing_zeros, under, ones}
use Rattle.std.proofs.Math.Pow.{pow-lt}
use Rattle.bits.specs.Logic.{andb, orb}
use Rattle.bits.specs.Digit.{digit, on}
use Rattle.bits.specs.DigitLaws.{on_and, on_or, on_zero, on_single, on_complement, on-ones}
use Rattle.bits.specs.LogicLaws.{never_both, and_true, and_false}
use Rattle.bits.specs.ShiftLaws.{on_half}
use Rattle.cells.specs.Sets.{With, Without}

pub on_power_other : (k i : ℕ) → (i ≡ k → ⊥) → on (2 ^ k) i ≡ false
unfolding on digit
on_power_other zero zero ne = absurd (ne refl)
on_power_other zero (suc i) ne = on_half 1 i ∙ on_zero i
on_power_other (suc k) zero ne = let e : 2 ^ suc k ≡ 2 ^ k * 2 = pow-suc 2 k in let d : 2 ^ suc k / 1 % 2 ≡ 0 = omega arith in rw d refl
on_power_other (suc k) (suc i) ne =
    on_half (2 ^ suc k) i
    ∙ ap (λ (z : ℕ). on z i) (let e : 2 ^ suc k ≡ 2 ^ k * 2 = pow-suc 2 k in let d : 2 ^ suc k / 2 ≡ 2 ^ k = omega arith in d)
    ∙ on_power_other k i (λ e. ne (ap suc e))

pub with_power : (s k : ℕ) → With s k (bit_or s (2 ^ k))
with_power s k i = on_or s (2 ^ k) i ∙ ap (λ (b : Bool). orb (on s i) b) (go (ℕ_discrete i k))
  where
    go : Dec (i ≡ k) → on (2 ^ k) i ≡ eqb i k
    go (yes e) = ap (λ (z : ℕ). on (2 ^ k) z) e ∙ on_single k ∙ sym (eq-eqb i k e)
    go (no e) = on_power_other k i e ∙ sym (ne_eqb i k e)

pub without_power : (s k : ℕ) → k < 64 → Without s k (bit_and s (2 ^ 64 - 1 - 2 ^ k))
without_power s k h = record {
  others = λ i l ne. digit_of i l ∙ ap (λ (b : Bool). andb (on s i) (not b)) (on_power_other k i ne) ∙ and_true (on s i);
  less = λ t.
      let le : bit_and s (2 ^ 64 - 1 - 2 ^ k) ≤ s = and_le_l s (2 ^ 64 - 1 - 2 ^ k) in
      let ne : bit_and s (2 ^ 64 - 1 - 2 ^ k) ≡ s → ⊥ = λ e. never_both (ap (λ (z : ℕ). on z k) e ∙ t) (digit_of k h ∙ ap (λ (b : Bool). andb (on s k) (not b)) (on_single k) ∙ and_false (on s k)) in
      elim (dec_lt (bit_and s (2 ^ 64 - 1 - 2 ^ k)) s) as (λ _. bit_and s (2 ^ 64 - 1 - 2 ^ k) < s) [ yes l ↦ l | no g ↦ absurd (ne (omega arith)) ];
}
  where
    digit_of : (i : ℕ) → i < 64 → on (bit_and s (2 ^ 64 - 1 - 2 ^ k)) i ≡ andb (on s i) (not (on (2 ^ k) i))
    digit_of i l = on_and s (2 ^ 64 - 1 - 2 ^ k) i ∙ ap (λ (b : Bool). andb (on s i) b) (on_complement 64 (2 ^ k) i (pow-lt h) l)

-- the lowest element
pub lowest_on : (d n : ℕ) → (n ≡ 0 → ⊥) → n < 2 ^ d → (count_trailing_zeros d n < d) × (on n (count_trailing_zeros d n) ≡ true)
unfolding count_trailing_zeros on digit
lowest_on zero n ne h = absurd (ne (omega arith))
lowest_on (suc d) n ne h = go (n % 2) refl
    (λ e. lowest_on d (n / 2) (λ q. ne (omega arith)) (let p : 2 ^ suc d ≡ 2 ^ d * 2 = pow-suc 2 d in omega arith))
  where
    go : (r : ℕ) → n % 2 ≡ r
        → (n % 2 ≡ 0 → (count_trailing_zeros d (n / 2) < d) × (on (n / 2) (count_trailing_zeros d (n / 2)) ≡ true))
        → (under r (count_trailing_zeros d (n / 2)) < suc d) × (on n (under r (count_trailing_zeros d (n / 2))) ≡ true)
    go zero e ih = let r = ih e in ((let z = r.0 in omega arith), on_half n (count_trailing_zeros d (n / 2)) ∙ r.1)
    go (suc r) e ih = ((omega arith), (let p : n / 1 % 2 ≡ 1 = omega arith in rw p refl))

-- ---- sets of cells
-- the size of one is the number of its digits below 6
pub size_of : (x : ℕ) → (ones (bit_and x 63) ≡ count (on x) 6) × (ones (bit_and x 63) ≤ 6)
size_of x =
    let low = and_le_r x 63 in
    let cells = count-alike (on (bit_and x 63)) (on x) 6 (λ i h. on_and x 63 i ∙ ap (andb (on x i)) (on-ones 6 i h) ∙ and_true (on x i)) in
    let size = ones-count 6 (bit_and x 63) (omega arith) ∙ cells in
    let few = count-le (on x) 6 in
    (size, omega arith)

-- 2 ^ k as the code shifts it
pub power_is : (k : ℕ) → k ≤ 6 → (1 * 2 ^ k % 2 ^ 8 ≡ 2 ^ k) × (0 < 1 * 2 ^ k % 2 ^ 8) × (1 * 2 ^ k % 2 ^ 8 ≤ 64)
power_is k h =
    let l : k < 8 = omega arith in
    let e : 1 * 2 ^ k % 2 ^ 8 ≡ 2 ^ k = rw one-mul (mod-eq_of_lt (pow-lt l)) in
    let p : 0 < 2 ^ k = pow_pos k in
    let m : 2 ^ k ≤ 2 ^ 6 = pow_mono h in
    (e, (omega arith), omega arith)
