-- One more than a number, digit by digit: a digit changes exactly where all digits below it are 1. Assumes nothing.
use Rattle.std.specs.Prelude.{◌≡◌, refl, Bool, true, false, ℕ, zero, suc, ◌+◌, ◌/◌, ◌%◌, ◌^◌, eqb}
use Rattle.std.proofs.Common.{sym, ap, ◌∙◌, arith, add-one, shr-shr}
use Rattle.bits.specs.Logic.{andb, xorb, pick}
use Rattle.bits.specs.Digit.{digit, on}
use Rattle.bits.specs.Carry.{full}
use Rattle.bits.specs.DigitLaws.{Binary, is0, is1, digit_binary}

-- what is carried into digit k
abbrev carry : Bool → ℕ
carry f = pick f 1 0

-- a carry into a digit m, and out of it
carry_out : (m : ℕ) (f : Bool) {d : ℕ} → Binary d → m % 2 ≡ d → (m + carry f) / 2 ≡ m / 2 + carry (andb (eqb d 1) f)
carry_out m true is0 e = omega arith
carry_out m false is0 e = omega arith
carry_out m true is1 e = omega arith
carry_out m false is1 e = omega arith

carry_in : (m : ℕ) (f : Bool) {d : ℕ} → Binary d → m % 2 ≡ d → eqb ((m + carry f) % 2) 1 ≡ xorb (eqb d 1) f
carry_in m true is0 e = let r : (m + 1) % 2 ≡ 1 = omega arith in ap (λ (x : ℕ). eqb x 1) r
carry_in m false is0 e = let r : (m + 0) % 2 ≡ 0 = omega arith in ap (λ (x : ℕ). eqb x 1) r
carry_in m true is1 e = let r : (m + 1) % 2 ≡ 0 = omega arith in ap (λ (x : ℕ). eqb x 1) r
carry_in m false is1 e = let r : (m + 0) % 2 ≡ 1 = omega arith in ap (λ (x : ℕ). eqb x 1) r

carried : (n k : ℕ) → (n + 1) / 2 ^ k ≡ n / 2 ^ k + carry (full n k)
unfolding full on digit
carried n zero = omega arith
carried n (suc k) =
    let half : (x : ℕ) → x / 2 ^ suc k ≡ x / 2 ^ k / 2
    = λ x. ap (λ (j : ℕ). x / 2 ^ j) (sym (add-one k)) ∙ sym (shr-shr x k 1) in
    half (n + 1) ∙ ap (λ (x : ℕ). x / 2) (carried n k)
    ∙ carry_out (n / 2 ^ k) (full n k) (digit_binary n k) refl
    ∙ ap (λ (x : ℕ). x + carry (full n (suc k))) (sym (half n))

pub on_next : (n k : ℕ) → on (n + 1) k ≡ xorb (on n k) (full n k)
unfolding on digit
on_next n k = ap (λ (x : ℕ). eqb (x % 2) 1) (carried n k) ∙ carry_in (n / 2 ^ k) (full n k) (digit_binary n k) refl
