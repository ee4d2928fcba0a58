-- Laws of counting below a bound: one number more, one number less, and what is the same for properties that agree. The digits of a
-- number that are 1 are so counted. Assumes nothing.
use Rattle.std.specs.Prelude.{◌≡◌, refl, Bool, true, false, ◌⊎◌, ℕ, zero, suc, ◌+◌, ◌/◌, ◌%◌, ◌^◌, ◌≤◌, ◌<◌, eqb}
use Rattle.std.proofs.Common.{sym, ap, ap₂, ◌∙◌, subst, inl, inr, ⊎_elim, arith, pow-suc, add-one}
use Rattle.std.proofs.Math.Decide.{dec_lt}
use Rattle.std.specs.Int.Count.{ones, ones_step}
use Rattle.bits.specs.Logic.{bit}
use Rattle.bits.specs.LogicLaws.{bit_le}
use Rattle.bits.specs.Count.{count, sum}
use Rattle.bits.specs.Digit.{digit, on}
use Rattle.bits.specs.DigitLaws.{Binary, is0, is1, binary}
use Rattle.bits.specs.ShiftLaws.{on_half}

pub less_or_equal : (z n : ℕ) → z < suc n → (z < n) ⊎ (z ≡ n)
less_or_equal z n h = elim (dec_lt z n) as (λ _. (z < n) ⊎ (z ≡ n)) [ yes l ↦ inl l | no g ↦ inr (omega arith) ]

pub count-le : (p : ℕ → Bool) (n : ℕ) → count p n ≤ n
unfolding count
count-le p zero = omega arith
count-le p (suc n) = let h = count-le p n in let b = bit_le (p n) in omega arith

pub count-alike : (p q : ℕ → Bool) (n : ℕ) → ((i : ℕ) → i < n → p i ≡ q i) → count p n ≡ count q n
unfolding count
count-alike p q zero h = refl
count-alike p q (suc n) h = rw (count-alike p q n (λ i l. h i (omega arith)), h n (omega arith)) refl

-- one number more is looked at
pub count_more : (p : ℕ → Bool) (n k : ℕ) → p n ≡ true → k ≡ count p n → k + 1 ≡ count p (n + 1)
unfolding count
count_more p n k e h = let z : bit (p n) ≡ 1 = ap bit e in let w : count p (n + 1) ≡ count p n + bit (p n) = ap (count p) (add-one n) in omega arith

pub count_same : (p : ℕ → Bool) (n k : ℕ) → p n ≡ false → k ≡ count p n → k ≡ count p (n + 1)
unfolding count
count_same p n k e h = let z : bit (p n) ≡ 0 = ap bit e in let w : count p (n + 1) ≡ count p n + bit (p n) = ap (count p) (add-one n) in omega arith

-- one number less has it
pub count-drop : (p q : ℕ → Bool) (n x : ℕ) → x < n → p x ≡ true → q x ≡ false → ((i : ℕ) → (i ≡ x → ⊥) → q i ≡ p i) → count q n < count p n
unfolding count
count-drop p q zero x l a b h = absurd (omega arith)
count-drop p q (suc n) x l a b h = ⊎_elim
    (λ k. let r = count-drop p q n x k a b h in let e : q n ≡ p n = h n (λ z. omega arith) in let f : bit (q n) ≡ bit (p n) = ap bit e in omega arith)
    (λ e. let f : q n ≡ false = subst (λ (z : ℕ). q z ≡ false) e b in
    let g : p n ≡ true = subst (λ (z : ℕ). p z ≡ true) e a in
    let w = count-alike q p n (λ i k. h i (λ z. omega arith)) in
    let f' : bit (q n) ≡ 0 = ap bit f in let g' : bit (p n) ≡ 1 = ap bit g in omega arith)
    (less_or_equal x n l)

-- ---- sums
pub sum-le : (f g : ℕ → ℕ) (n : ℕ) → ((i : ℕ) → i < n → f i ≤ g i) → sum f n ≤ sum g n
unfolding sum
sum-le f g zero h = omega arith
sum-le f g (suc n) h = let a = sum-le f g n (λ i l. h i (omega arith)) in let b = h n (omega arith) in omega arith

pub sum_more : (f g : ℕ → ℕ) (n x : ℕ) → x < n → f x < g x → ((i : ℕ) → i < n → (i ≡ x → ⊥) → f i ≤ g i) → sum f n < sum g n
unfolding sum
sum_more f g zero x l h k = absurd (omega arith)
sum_more f g (suc n) x l h k = ⊎_elim
    (λ b. let r = sum_more f g n x b h (λ i l. k i (omega arith)) in let e = k n (omega arith) (λ z. omega arith) in omega arith)
    (λ e. let a = sum-le f g n (λ i b. k i (omega arith) (λ z. omega arith)) in let c : f n < g n = subst (λ (z : ℕ). f z < g z) e h in omega arith)
    (less_or_equal x n l)

-- ---- the digits of a number
pub count_shift : (p : ℕ → Bool) (n : ℕ) → count p (suc n) ≡ bit (p 0) + count (λ (i : ℕ). p (suc i)) n
unfolding count
count_shift p zero = omega arith
count_shift p (suc n) = let e = count_shift p n in omega arith

low_digit : (n : ℕ) → n % 2 ≡ bit (on n 0)
unfolding on digit
low_digit n = go (n / 1 % 2) (binary (n / 1 % 2) (omega arith)) (omega arith)
  where
    go : (d : ℕ) → Binary d → n % 2 ≡ d → n % 2 ≡ bit (eqb d 1)
    go d is0 e = e
    go d is1 e = e

-- how many digits of a number are 1
pub ones-count : (w n : ℕ) → n < 2 ^ w → ones n ≡ count (on n) w
unfolding count ones
ones-count zero n h = ap ones (let e : n ≡ 0 = omega arith in e)
ones-count (suc w) n h =
    ones_step n
    ∙ ap₂ (λ (a b : ℕ). a + b) (low_digit n)
    (ones-count w (n / 2) (let e = pow-suc 2 w in omega arith) ∙ count-alike (on (n / 2)) (λ (i : ℕ). on n (suc i)) w (λ i h. sym (on_half n i)))
    ∙ sym (count_shift (on n) w)

pub suc_shift : (a b : ℕ) → suc a + b ≡ a + suc b
suc_shift a b = omega arith
