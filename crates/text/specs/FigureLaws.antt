-- The print of a number, digit by digit: how many digits it has, and that it has digits alone. Assumes nothing.
use Rattle.std.specs.Prelude.{◌≡◌, refl, Bool, true, false, List, [], ◌∷◌, ◌++◌, ℕ, zero, suc, ◌+◌, ◌/◌, ◌≤◌, ◌<◌, ltb, length}
use Rattle.std.proofs.Common.{ap, ◌∙◌, arith, length-append, lt-ltb, le-ltb}
use Rattle.bits.specs.Logic.{pick}
use Rattle.limits.specs.Limits.{max_digits}
use Rattle.text.specs.Unbroken.{unbroken}
use Rattle.text.specs.Number.{numeral_of, print_number_of, print_number}
use Rattle.text.specs.Numerals.{all_numerals}
use Rattle.text.specs.NumeralLaws.{numeral-between, numerals-last, numerals-unbroken}

-- ---- its last digit
pub print_one : (k n : ℕ) → n < 10 → print_number_of (suc k) n ≡ numeral_of n ∷ []
unfolding print_number_of
print_one k n h = rw (lt-ltb n 10 h) refl

pub print_more : (k n : ℕ) → 10 ≤ n → print_number_of (suc k) n ≡ print_number_of k (n / 10) ++ (numeral_of n ∷ [])
unfolding print_number_of
print_more k n h = rw (le-ltb n 10 h) refl

-- what holds of no digits, and after one digit more, holds of a print
by_digits : (P : ℕ → List ℕ → Type 0)
    → ((k : ℕ) → P k [])
    → ((k n : ℕ) (s : List ℕ) → P k s → P (suc k) (s ++ (numeral_of n ∷ [])))
    → (k n : ℕ) → P k (print_number_of k n)
unfolding print_number_of
by_digits P none more zero n = none zero
by_digits P none more (suc k) n = go (ltb n 10) (by_digits P none more k (n / 10))
  where
    go : (t : Bool) → P k (print_number_of k (n / 10)) → P (suc k) (pick t (numeral_of n ∷ []) (print_number_of k (n / 10) ++ (numeral_of n ∷ [])))
    go true h = more k n [] (none k)
    go false h = more k n (print_number_of k (n / 10)) h

-- ---- its digits
pub print_short_of : (k n : ℕ) → length (print_number_of k n) ≤ k
print_short_of =
    by_digits (λ (k : ℕ) (s : List ℕ). length s ≤ k) (λ k. omega arith)
    (λ k n s h. omega (arith, length-append s (numeral_of n ∷ [])))

pub print_numerals_of : (k n : ℕ) → all_numerals (print_number_of k n) ≡ true
unfolding all_numerals
print_numerals_of =
    by_digits (λ (k : ℕ) (s : List ℕ). all_numerals s ≡ true) (λ k. refl)
    (λ k n s h. numerals-last s (numeral_of n) h (numeral-between (numeral_of n) (omega arith) (omega arith)))

pub print_unbroken_of : (k n : ℕ) → unbroken (print_number_of k n) ≡ true
print_unbroken_of k n = numerals-unbroken (print_number_of k n) (print_numerals_of k n)

-- ---- the numbers of a design sheet
pub print_short : (n : ℕ) → length (print_number n) ≤ max_digits
unfolding print_number
print_short = print_short_of max_digits

pub print_numerals : (n : ℕ) → all_numerals (print_number n) ≡ true
unfolding print_number
print_numerals = print_numerals_of max_digits

pub print_unbroken : (n : ℕ) → unbroken (print_number n) ≡ true
unfolding print_number
print_unbroken = print_unbroken_of max_digits

pub print_digit : (n : ℕ) → n < 10 → print_number n ≡ (0x30 + n) ∷ []
unfolding print_number
print_digit n h =
    let e : numeral_of n ≡ 0x30 + n = omega arith in
    print_one 2 n h ∙ ap (λ (d : ℕ). d ∷ []) e
