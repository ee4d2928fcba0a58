-- Letters and digits are ranges of bytes: what their tests answer inside, between, below and above. Assumes nothing.
use Rattle.std.specs.Prelude.{◌≡◌, Bool, true, false, ◌&&◌, ◌||◌, ℕ, ◌≤◌, ◌<◌, leb}
use Rattle.std.proofs.Math.Path.{refl, ap}
use Rattle.std.proofs.Common.{◌∙◌, arith, le-leb}
use Rattle.std.proofs.Math.Bool.{or-true}
use Rattle.std.proofs.lemmas.Bool.{lt-leb}
use Rattle.text.specs.Number.{numeral}
use Rattle.names.specs.Case.{small, capital}
use Rattle.names.specs.Name.{letter, name_byte}

module _ (lo hi b : ℕ) where
  inside : lo ≤ b → b ≤ hi → leb lo b && leb b hi ≡ true
  inside h g = rw (le-leb _ _ h, le-leb _ _ g) refl

  below : b < lo → leb lo b && leb b hi ≡ false
  below h = rw (lt-leb _ _ h) refl

  above : lo ≤ b → hi < b → leb lo b && leb b hi ≡ false
  above h g = rw (le-leb _ _ h, lt-leb _ _ g) refl

module _ (b : ℕ) where
  is_small : 0x61 ≤ b → b ≤ 0x7A → small b ≡ true
  is_small h g = inside 0x61 0x7A b h g

  pub is_capital : 0x41 ≤ b → b ≤ 0x5A → capital b ≡ true
  is_capital h g = inside 0x41 0x5A b h g

  pub below_capitals : b < 0x41 → capital b ≡ false
  below_capitals h = below 0x41 0x5A b h

  pub above_capitals : 0x5A < b → capital b ≡ false
  above_capitals h = above 0x41 0x5A b (omega arith) h

  pub letter-small : 0x61 ≤ b → b ≤ 0x7A → letter b ≡ true
  unfolding letter
  letter-small h g = ap (λ (t : Bool). t || capital b) (is_small h g)

  pub letter-capital : 0x41 ≤ b → b ≤ 0x5A → letter b ≡ true
  unfolding letter
  letter-capital h g = ap (λ (t : Bool). small b || t) (is_capital h g) ∙ or-true (small b)

  pub letter_below : b < 0x41 → letter b ≡ false
  unfolding letter
  letter_below h = rw (below 0x61 0x7A b (omega arith), below_capitals h) refl

  pub letter_amid : 0x5A < b → b < 0x61 → letter b ≡ false
  unfolding letter
  letter_amid h g = rw (below 0x61 0x7A b g, above_capitals h) refl

  pub letter_above : 0x7A < b → letter b ≡ false
  unfolding letter
  letter_above h = rw (above 0x61 0x7A b (omega arith) h, above_capitals (omega arith)) refl

  pub numeral_below : b < 0x30 → numeral b ≡ false
  unfolding numeral
  numeral_below h = below 0x30 0x39 b h

  pub numeral_above : 0x39 < b → numeral b ≡ false
  unfolding numeral
  numeral_above h = above 0x30 0x39 b (omega arith) h

  pub letter_in_names : letter b ≡ true → true ≡ name_byte b
  unfolding name_byte
  letter_in_names e = rw e refl

  pub numeral_in_names : numeral b ≡ true → true ≡ name_byte b
  unfolding name_byte
  numeral_in_names e = rw (e, or-true (letter b)) refl

  pub other_in_no_name : letter b ≡ false → numeral b ≡ false → false ≡ name_byte b
  unfolding name_byte
  other_in_no_name e f = rw (e, f) refl
