-- The words of a table that holds one digit of the row's number. Assumes nothing.
use mathlib.Core.Path.{◌≡◌, refl, sym, ap, ◌∙◌}
use mathlib.Core.Bool.{Bool, true, false}
use mathlib.Core.List.{List, [], ◌∷◌}
use Prim.Native.Nat.{ℕ, ◌+◌, ◌-◌, ◌*◌, ◌≤◌, ◌<◌}
use native.Mathlib.Omega.{arith}
use lib.Arith.{digits_div, digits_mod}
use lib.ListN.{get_or}
use Rattle.limits.specs.Limits.{max_inputs, table_words}
use Rattle.bits.specs.Digit.{on, digit}
use Rattle.bits.specs.DigitLaws.{on-ones, on_zero, on_above}
use Rattle.bits.specs.Every.{every, same}
use Rattle.bits.specs.EveryLaws.{every_at, same_equal}
use Rattle.bits.specs.ShiftLaws.{on_cut}
use Rattle.rows.specs.PartLaws.{on_high}
use Rattle.rows.specs.Words.{WordOf}

-- the code's constant table
abbrev pub masks : List ℕ
masks =
    0xAAAAAAAAAAAAAAAA ∷ 0xCCCCCCCCCCCCCCCC ∷ 0xF0F0F0F0F0F0F0F0
    ∷ 0xFF00FF00FF00FF00 ∷ 0xFFFF0000FFFF0000 ∷ 0xFFFFFFFF00000000 ∷ []

agrees : ℕ → ℕ → Bool
agrees p k = same (on (get_or masks p 0) k) (on k p)

-- the table's rule, 6 times 64 digits by one computation
rule : every (λ p. every (agrees p) 64) 6 ≡ true
unfolding every agrees on digit
rule = refl

mask_at : (p k : ℕ) → p < 6 → k < 64 → on (get_or masks p 0) k ≡ on k p
unfolding agrees
mask_at p k h l =
    same_equal _ _ (every_at (agrees p) 64 (every_at (λ q. every (agrees q) 64) 6 rule p h) k l)

pub low_word : (p w : ℕ) → p < 6 → WordOf (λ r. on r p) w (get_or masks p 0)
low_word p w h =
    record {
      each = λ k l. mask_at p k h l ∙ ap (λ (x : ℕ). on x p) (sym (digits_mod w l)) ∙ on_cut 6 (w * 64 + k) p h;
    }

-- on the rows of word w, digit p above the six is digit p - 6 of w
high_digit : (p w k : ℕ) → 6 ≤ p → k < 64 → on w (p - 6) ≡ on (w * 64 + k) p
high_digit p w k h l =
    ap (λ (x : ℕ). on x (p - 6)) (sym (digits_div w l)) ∙ on_high 6 (w * 64 + k) (p - 6)
    ∙ ap (λ (j : ℕ). on (w * 64 + k) j) (let e : 6 + (p - 6) ≡ p = omega arith in e)

pub high_word : (p w : ℕ) → 6 ≤ p → on w (p - 6) ≡ true → WordOf (λ r. on r p) w 0xFFFFFFFFFFFFFFFF
high_word p w h e = record { each = λ k l. on-ones 64 k l ∙ sym e ∙ high_digit p w k h l }

pub high_none : (p w : ℕ) → 6 ≤ p → on w (p - 6) ≡ false → WordOf (λ r. on r p) w 0
high_none p w h e = record { each = λ k l. on_zero k ∙ sym e ∙ high_digit p w k h l }

pub past_word : (p w : ℕ) → max_inputs ≤ p → w < table_words → WordOf (λ r. on r p) w 0
past_word p w h b = high_none p w (omega arith) (on_above 4 w (p - 6) (omega arith) (omega arith))
