-- The codes with the known digit of cell 0 are every second code; all are allowed at a vertex whose digit is not known. Codes
-- with the other digit are taken away: only solutions with the known digits are asked for. Assumes nothing.
use Rattle.std.specs.Prelude.{◌≡◌, ℕ, ◌-◌, ◌^◌, ◌<◌, true, false, not, refl}
use Rattle.std.proofs.Common.{sym, ap, ◌∙◌}
use Rattle.bits.specs.LogicLaws.{never_both, complement_true}
use Rattle.bits.specs.Digit.{digit, on}
use Rattle.bits.specs.DigitLaws.{on-ones}
use Rattle.bits.specs.Every.{every, same}
use Rattle.bits.specs.EveryLaws.{every_at, same_equal}
use Rattle.holding.specs.WithoutCellLaws.{without_cell, without_cell_on}
use Rattle.coding.specs.Known.{Fitting}

-- the codes with digit 0 on, and those with it off
abbrev odd : ℕ
odd = 12297829382473034410

abbrev even : ℕ
even = 6148914691236517205

odd-on : (c : ℕ) → c < 64 → on odd c ≡ on c 0
unfolding on digit every
odd-on c h = same_equal _ _ (every_at (λ (c : ℕ). same (on odd c) (on c 0)) 64 refl c h)

even-on : (c : ℕ) → c < 64 → on even c ≡ not (on c 0)
unfolding on digit every without_cell
even-on c h = without_cell_on even 0 refl c h

pub fitting_any : (kn val x : ℕ) → on kn x ≡ false → Fitting kn val x (2 ^ 64 - 1)
fitting_any kn val x e = record { only = λ c l t k. absurd (never_both k e); all = λ c l k. on-ones 64 c l }

pub fitting_one : (kn val x : ℕ) → on kn x ≡ true → on val x ≡ true → Fitting kn val x odd
fitting_one kn val x e d = record { only = λ c l t k. sym (odd-on c l) ∙ t ∙ sym d; all = λ c l k. odd-on c l ∙ k e ∙ d }

pub fitting_zero : (kn val x : ℕ) → on kn x ≡ true → on val x ≡ false → Fitting kn val x even
fitting_zero kn val x e d = record {
  only = λ c l t k. complement_true (on c 0) (sym (even-on c l) ∙ t) ∙ sym d;
  all = λ c l k. even-on c l ∙ ap not (k e ∙ d);
}
