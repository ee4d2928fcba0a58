-- The small letter of a byte: only capitals change, and a byte is a letter, or a digit, where its small letter is one.
-- Assumes nothing.
use Rattle.std.specs.Prelude.{◌≡◌, Bool, true, false, ℕ, ◌+◌, ◌≤◌, leb}
use Rattle.std.proofs.Math.Path.{refl, ap}
use Rattle.std.proofs.Common.{sym, ◌∙◌, arith, leb-true}
use Rattle.bits.specs.Logic.{pick}
use Rattle.bits.specs.LogicLaws.{and_left, and_right}
use Rattle.text.specs.Number.{numeral}
use Rattle.names.specs.Case.{small, capital, lower}
use Rattle.names.specs.Name.{letter, name_byte}
use Rattle.names.specs.ByteLaws.{letter-small, letter-capital, numeral_above}

pub small-between : (b : ℕ) → small b ≡ true → (0x61 ≤ b) × (b ≤ 0x7A)
small-between b e = (leb-true 0x61 b (and_left (leb 0x61 b) (leb b 0x7A) e), leb-true b 0x7A (and_right (leb 0x61 b) (leb b 0x7A) e))

pub capital-between : (b : ℕ) → capital b ≡ true → (0x41 ≤ b) × (b ≤ 0x5A)
capital-between b e = (leb-true 0x41 b (and_left (leb 0x41 b) (leb b 0x5A) e), leb-true b 0x5A (and_right (leb 0x41 b) (leb b 0x5A) e))

module _ (b : ℕ) where
  pub lower-capital : capital b ≡ true → lower b ≡ b + 0x20
  unfolding lower
  lower-capital e = ap (λ (t : Bool). pick t (b + 0x20) b) e

  pub lower_other : capital b ≡ false → lower b ≡ b
  unfolding lower
  lower_other e = ap (λ (t : Bool). pick t (b + 0x20) b) e

  by_case : (P : ℕ → Type 0) → (capital b ≡ true → P (b + 0x20)) → P b → P (lower b)
  by_case P f g = go (capital b) refl
    where
      go : (t : Bool) → capital b ≡ t → P (lower b)
      go true e = rw (lower-capital e) (f e)
      go false e = rw (lower_other e) g

  pub lower-letter : letter (lower b) ≡ letter b
  lower-letter = by_case (λ (c : ℕ). letter c ≡ letter b) (λ e. both (capital-between b e)) refl
    where
      both : (0x41 ≤ b) × (b ≤ 0x5A) → letter (b + 0x20) ≡ letter b
      both (l, h) = letter-small (b + 0x20) (omega arith) (omega arith) ∙ sym (letter-capital b l h)

  lower-numeral : numeral (lower b) ≡ numeral b
  lower-numeral = by_case (λ (c : ℕ). numeral c ≡ numeral b) (λ e. both (capital-between b e)) refl
    where
      both : (0x41 ≤ b) × (b ≤ 0x5A) → numeral (b + 0x20) ≡ numeral b
      both (l, h) = numeral_above (b + 0x20) (omega arith) ∙ sym (numeral_above b (omega arith))

  pub lower_name_byte : name_byte (lower b) ≡ name_byte b
  unfolding name_byte
  lower_name_byte = rw (lower-letter, lower-numeral) refl
