-- Rows and lists of input values are two forms of one thing, for every number of inputs together: each list has its row,
-- each row its list, and going there and back changes nothing. Assumes nothing.
use Rattle.std.specs.Prelude.{◌≡◌, refl, Bool, true, false, List, [], ◌∷◌, ℕ, zero, suc, ◌+◌, ◌*◌, ◌%◌, ◌^◌, ◌≤◌, ◌<◌, eqb, length, get_or}
use Rattle.std.proofs.Common.{sym, ap, ap₂, ◌∙◌, arith, mod-eq_of_lt, one-add}
use Rattle.std.proofs.Math.Nat.{pow-succ'}
use Rattle.std.proofs.Math.Arith.{digits_lt}
use Rattle.std.proofs.lemmas.Nat.{mod-pow-add}
use Rattle.std.proofs.Math.Pow.{high, low}
use Rattle.bits.specs.Digit.{on, digit}
use Rattle.bits.specs.DigitLaws.{Binary, is0, is1, digit_binary}
use Rattle.bits.specs.Logic.{bit}
use Rattle.bits.specs.ShiftLaws.{on_cut}
use Rattle.rows.specs.Row.{row_of, values_of, input_on}

-- ---- from a list to its row
bit-lt : (b : Bool) → bit b < 2
bit-lt true = omega arith
bit-lt false = omega arith

pub row_lt : (l : List Bool) → row_of l < 2 ^ length l
unfolding row_of
row_lt [] = omega arith
row_lt (b ∷ l) = rw pow-succ' (digits_lt (bit-lt b) (row_lt l))

bit-on : (b : Bool) → eqb (bit b % 2) 1 ≡ b
bit-on true = refl
bit-on false = refl

on_top : (b : Bool) (n x : ℕ) → x < 2 ^ n → on (bit b * 2 ^ n + x) n ≡ b
unfolding on digit
on_top b n x h = ap (λ (y : ℕ). eqb (y % 2) 1) (high (bit b) n h) ∙ bit-on b

values_low : (m n r : ℕ) → n ≤ m → values_of n (r % 2 ^ m) ≡ values_of n r
unfolding values_of
values_low m zero r h = refl
values_low m (suc n) r h = ap₂ (λ (b : Bool) (l : List Bool). b ∷ l) (on_cut m r n h) (values_low m n r (omega arith))

pub values_row : (l : List Bool) → values_of (length l) (row_of l) ≡ l
unfolding row_of values_of
values_row [] = refl
values_row (b ∷ l) =
    let n = length l in
    let r : ℕ = bit b * 2 ^ n + row_of l in
    ap₂ (λ (c : Bool) (k : List Bool). c ∷ k)
    (on_top b n (row_of l) (row_lt l))
    (sym (values_low n n r (omega arith)) ∙ ap (λ (x : ℕ). values_of n x) (low (bit b) n (row_lt l)) ∙ values_row l)

-- ---- from a row to its list
bit-digit : {d : ℕ} → Binary d → bit (eqb d 1) ≡ d
bit-digit is0 = refl
bit-digit is1 = refl

pub length_values : (n r : ℕ) → length (values_of n r) ≡ n
unfolding values_of
length_values zero r = refl
length_values (suc n) r = ap suc (length_values n r)

-- of a number past the last row, the digits above the n lowest are lost
row_values_mod : (n r : ℕ) → row_of (values_of n r) ≡ r % 2 ^ n
unfolding row_of values_of on digit
row_values_mod zero r = omega arith
row_values_mod (suc n) r =
    ap₂ (λ (x y : ℕ). x + y)
    (ap₂ (λ (x y : ℕ). x * 2 ^ y) (bit-digit (digit_binary r n)) (length_values n r))
    (row_values_mod n r)
    ∙ sym (mod-pow-add r 1 n) ∙ ap (λ (m : ℕ). r % 2 ^ m) (one-add n)

pub row_values : (n r : ℕ) → r < 2 ^ n → row_of (values_of n r) ≡ r
row_values n r h = row_values_mod n r ∙ mod-eq_of_lt h

-- ---- one input
pub values_at : (n r i : ℕ) → i < n → get_or (values_of n r) i false ≡ input_on n r i
unfolding values_of input_on
values_at zero r i h = absurd (omega arith)
values_at (suc n) r zero h = ap (λ (k : ℕ). on r k) (omega arith)
values_at (suc n) r (suc i) h = values_at n r i (omega arith) ∙ ap (λ (k : ℕ). on r k) (omega arith)
