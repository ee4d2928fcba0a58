-- The digits of a number that is cut to a width, and of one that is shifted: the digits move by the number of places. Assumes nothing.
use Rattle.std.specs.Prelude.{◌≡◌, false, ℕ, suc, ◌+◌, ◌-◌, ◌*◌, ◌/◌, ◌%◌, ◌^◌, ◌<◌, eqb}
use Rattle.std.proofs.Common.{sym, ap, ◌∙◌, one-add, shr-shr}
use Rattle.std.proofs.lemmas.Nat.{and_mask, shl-shr}
use Rattle.std.specs.Int.Bits.{and_shifted}
use Rattle.std.proofs.Math.Pow.{pow-lt}
use Rattle.bits.specs.LogicLaws.{and_true}
use Rattle.bits.specs.Logic.{andb}
use Rattle.bits.specs.Digit.{digit, on}
use Rattle.bits.specs.DigitLaws.{on_and, on-ones, on_single, on_zero}

pub on_cut : (w n k : ℕ) → k < w → on (n % 2 ^ w) k ≡ on n k
on_cut w n k h = ap (λ (z : ℕ). on z k) (sym (and_mask n w)) ∙ on_and n (2 ^ w - 1) k ∙ ap (andb (on n k)) (on-ones w k h) ∙ and_true (on n k)

pub on_down : (n s k : ℕ) → on (n / 2 ^ s) k ≡ on n (s + k)
unfolding on digit
on_down n s k = ap (λ (z : ℕ). eqb (z % 2) 1) (shr-shr n s k)

pub on_shifted : (n s k : ℕ) → on (n * 2 ^ s) (s + k) ≡ on n k
on_shifted n s k = sym (on_down (n * 2 ^ s) s k) ∙ ap (λ (z : ℕ). on z k) (shl-shr n s)

pub on_below_shifted : (n s k : ℕ) → k < s → on (n * 2 ^ s) k ≡ false
on_below_shifted n s k h =
    sym (and_true (on (n * 2 ^ s) k)) ∙ ap (andb (on (n * 2 ^ s) k)) (sym (on_single k)) ∙ sym (on_and (n * 2 ^ s) (2 ^ k) k)
    ∙ ap (λ (z : ℕ). on z k) (and_shifted n s (2 ^ k) (pow-lt h)) ∙ on_zero k

pub on_half : (n i : ℕ) → on n (suc i) ≡ on (n / 2) i
on_half n i = sym (on_down n 1 i ∙ ap (on n) (one-add i))
