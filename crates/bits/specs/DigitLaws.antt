-- And, or, exclusive or and complement go digit by digit, and a
-- number is decided by its digits, for every width together. Assumes nothing.
use Rattle.std.specs.Prelude.{◌≡◌, refl, Bool, true, false, not, ℕ, zero, suc, ◌+◌, ◌-◌, ◌*◌, ◌/◌, ◌%◌, ◌^◌, ◌≤◌, ◌<◌, min, max, eqb}
use Rattle.std.proofs.Common.{ap, ◌∙◌, arith, mod-eq_of_lt, pow-suc, lt_of_lt_of_le, one-add, shr-shr, pow_pos, pow_mono}
use Rattle.std.proofs.Math.Nat.{zero-div, div_self, div-eq_of_lt}
use Rattle.std.proofs.Math.Arith.{bin_ind}
use Rattle.std.proofs.Math.Pow.{ones_split, high, ones_lt}
use Rattle.std.specs.Int.Bits.{bit_and, bit_or, bit_xor, differ, and_step, or_step, xor_step, xor_add_and}
use Rattle.std.proofs.lemmas.Nat.{and_shr, or_shr, xor_shr, and_le_l, and_le_r, and_comm, and_mask}
use Rattle.bits.specs.Logic.{andb, orb, xorb}
use Rattle.bits.specs.LogicLaws.{true_false, or_true, or_false, xor_self}
use Rattle.bits.specs.Digit.{digit, on}

-- ---- a digit is 0 or 1
pub data Binary : ℕ → Type 0 where
  is0 : Binary 0
  is1 : Binary 1

pub binary : (x : ℕ) → x < 2 → Binary x
binary zero h = is0
binary (suc zero) h = is1
binary (suc (suc x)) h = absurd (omega arith)

pub digit_lt : (n k : ℕ) → digit n k < 2
unfolding digit
digit_lt n k = omega arith

pub digit_binary : (n k : ℕ) → Binary (digit n k)
digit_binary n k = binary (digit n k) (digit_lt n k)

-- ---- digit by digit
lowest : (q d : ℕ) → d < 2 → (q * 2 + d) % 2 ≡ d
lowest q d h = omega arith

differ_lt : {a b : ℕ} → Binary a → Binary b → differ a b < 2
differ_lt is0 is0 = omega arith
differ_lt is0 is1 = omega arith
differ_lt is1 is0 = omega arith
differ_lt is1 is1 = omega arith

parity : (n : ℕ) → Binary (n % 2)
parity n = binary (n % 2) (omega arith)

digit_and : (a b k : ℕ) → digit (bit_and a b) k ≡ min (digit a k) (digit b k)
unfolding digit
digit_and a b k =
    ap (λ (x : ℕ). x % 2) (and_shr a b k ∙ and_step (a / 2 ^ k) (b / 2 ^ k))
    ∙ lowest _ (min (a / 2 ^ k % 2) (b / 2 ^ k % 2)) (omega arith)

digit_or : (a b k : ℕ) → digit (bit_or a b) k ≡ max (digit a k) (digit b k)
unfolding digit
digit_or a b k =
    ap (λ (x : ℕ). x % 2) (or_shr a b k ∙ or_step (a / 2 ^ k) (b / 2 ^ k))
    ∙ lowest _ (max (a / 2 ^ k % 2) (b / 2 ^ k % 2)) (omega arith)

digit_xor : (a b k : ℕ) → digit (bit_xor a b) k ≡ differ (digit a k) (digit b k)
unfolding digit
digit_xor a b k =
    ap (λ (x : ℕ). x % 2) (xor_shr a b k ∙ xor_step (a / 2 ^ k) (b / 2 ^ k))
    ∙ lowest _ _ (differ_lt (parity (a / 2 ^ k)) (parity (b / 2 ^ k)))

min_and : {x y : ℕ} → Binary x → Binary y → eqb (min x y) 1 ≡ andb (eqb x 1) (eqb y 1)
min_and is0 is0 = refl
min_and is0 is1 = refl
min_and is1 is0 = refl
min_and is1 is1 = refl

max_or : {x y : ℕ} → Binary x → Binary y → eqb (max x y) 1 ≡ orb (eqb x 1) (eqb y 1)
max_or is0 is0 = refl
max_or is0 is1 = refl
max_or is1 is0 = refl
max_or is1 is1 = refl

differ_xor : {x y : ℕ} → Binary x → Binary y → eqb (differ x y) 1 ≡ xorb (eqb x 1) (eqb y 1)
differ_xor is0 is0 = refl
differ_xor is0 is1 = refl
differ_xor is1 is0 = refl
differ_xor is1 is1 = refl

pub on_and : (a b k : ℕ) → on (bit_and a b) k ≡ andb (on a k) (on b k)
unfolding on
on_and a b k = ap (λ (x : ℕ). eqb x 1) (digit_and a b k) ∙ min_and (digit_binary a k) (digit_binary b k)

pub on_or : (a b k : ℕ) → on (bit_or a b) k ≡ orb (on a k) (on b k)
unfolding on
on_or a b k = ap (λ (x : ℕ). eqb x 1) (digit_or a b k) ∙ max_or (digit_binary a k) (digit_binary b k)

pub on_or_one : (a b k : ℕ) → on b k ≡ true → on (bit_or a b) k ≡ true
on_or_one a b k e = on_or a b k ∙ ap (orb (on a k)) e ∙ or_true (on a k)

pub on_or_none : (a b k : ℕ) → on b k ≡ false → on (bit_or a b) k ≡ on a k
on_or_none a b k e = on_or a b k ∙ ap (orb (on a k)) e ∙ or_false (on a k)

pub on_xor : (a b k : ℕ) → on (bit_xor a b) k ≡ xorb (on a k) (on b k)
unfolding on
on_xor a b k = ap (λ (x : ℕ). eqb x 1) (digit_xor a b k) ∙ differ_xor (digit_binary a k) (digit_binary b k)

-- ---- numbers with no digit, with all digits, with one digit
pub on_zero : (k : ℕ) → on 0 k ≡ false
unfolding on digit
on_zero k = ap (λ (x : ℕ). eqb (x % 2) 1) (zero-div (2 ^ k))

odd-ones : (j : ℕ) → 0 < j → (2 ^ j - 1) % 2 ≡ 1
odd-ones zero h = absurd (omega arith)
odd-ones (suc j) h =
    let p : 2 ^ suc j ≡ 2 ^ j * 2 = pow-suc 2 j in
    let q : 0 < 2 ^ j = pow_pos j in
    omega arith

pub on-ones : (w k : ℕ) → k < w → on (2 ^ w - 1) k ≡ true
unfolding on digit
on-ones w k h =
    let e : w ≡ w - k + k = omega arith in
    ap (λ (x : ℕ). eqb (x % 2) 1)
    (ap (λ (x : ℕ). (2 ^ x - 1) / 2 ^ k) e
    ∙ ap (λ (x : ℕ). x / 2 ^ k) (ones_split (w - k) k) ∙ high (2 ^ (w - k) - 1) k (ones_lt k))
    ∙ ap (λ (x : ℕ). eqb x 1) (odd-ones (w - k) (omega arith))

pub on_above : (w n k : ℕ) → n < 2 ^ w → w ≤ k → on n k ≡ false
unfolding on digit
on_above w n k h l = ap (λ (x : ℕ). eqb (x % 2) 1) (div-eq_of_lt (lt_of_lt_of_le h (pow_mono l)))

pub on_single : (i : ℕ) → on (2 ^ i) i ≡ true
unfolding on digit
on_single i = ap (λ (x : ℕ). eqb (x % 2) 1) (div_self (pow_pos i))

-- ---- the complement within w digits
complement_is_xor : (w m : ℕ) → m < 2 ^ w → 2 ^ w - 1 - m ≡ bit_xor (2 ^ w - 1) m
complement_is_xor w m h =
    let s : bit_xor (2 ^ w - 1) m + bit_and (2 ^ w - 1) m * 2 ≡ 2 ^ w - 1 + m = xor_add_and (2 ^ w - 1) m in
    let a : bit_and (2 ^ w - 1) m ≡ m = and_comm (2 ^ w - 1) m ∙ and_mask m w ∙ mod-eq_of_lt h in
    omega arith

pub on_complement : (w m k : ℕ) → m < 2 ^ w → k < w → on (2 ^ w - 1 - m) k ≡ not (on m k)
on_complement w m k h l =
    ap (λ (x : ℕ). on x k) (complement_is_xor w m h) ∙ on_xor (2 ^ w - 1) m k
    ∙ ap (λ (x : Bool). xorb x (on m k)) (on-ones w k l)

-- ---- a number is decided by its digits
digits_none : (n : ℕ) → ((k : ℕ) → digit n k ≡ 0) → n ≡ 0
unfolding digit
digits_none =
    bin_ind (λ (n : ℕ). ((k : ℕ) → digit n k ≡ 0) → n ≡ 0)
    (λ h. refl)
    (λ n ih h.
    let low : n / 1 % 2 ≡ 0 = h 0 in
    let half : n / 2 ≡ 0 = ih (λ k. ap (λ (x : ℕ). x % 2) (shr-shr n 1 k ∙ ap (λ (j : ℕ). n / 2 ^ j) (one-add k)) ∙ h (suc k)) in
    omega arith)

digit_off : {d : ℕ} → Binary d → eqb d 1 ≡ false → d ≡ 0
digit_off is0 e = refl
digit_off is1 e = absurd (true_false e)

pub on_none : (n : ℕ) → ((k : ℕ) → on n k ≡ false) → n ≡ 0
unfolding on
on_none n h = digits_none n (λ k. digit_off (digit_binary n k) (h k))

xor_zero_equal : (a b : ℕ) → bit_xor a b ≡ 0 → a ≡ b
xor_zero_equal a b e =
    let s : bit_xor a b + bit_and a b * 2 ≡ a + b = xor_add_and a b in
    let l : bit_and a b ≤ a = and_le_l a b in
    let r : bit_and a b ≤ b = and_le_r a b in
    omega arith

pub equal_digits : (a b : ℕ) → ((k : ℕ) → on a k ≡ on b k) → a ≡ b
equal_digits a b h =
    xor_zero_equal a b
    (on_none (bit_xor a b) (λ k. on_xor a b k ∙ ap (λ (x : Bool). xorb x (on b k)) (h k) ∙ xor_self (on b k)))
