-- What a byte opens: one kind for each range of bytes, and what each kind says of the byte and of the word. Assumes
-- nothing.
use Rattle.std.specs.Prelude.{◌≡◌, Bool, true, false, List, [], ◌∷◌, ℕ, ◌≤◌, ◌<◌, eqb, length, get_or, drop}
use Rattle.std.proofs.Math.Path.{refl}
use Rattle.std.proofs.Common.{◌∙◌, arith, drop_of_length-le, drop-cons}
use borrow.Author.Tests.{eq-eqb, ne_eqb}
use Rattle.bits.specs.Logic.{pick}
use Rattle.text.specs.Bytes.{open_bracket}
use Rattle.text.specs.Number.{numeral}
use Rattle.text.specs.NumeralLaws.{numeral-between}
use Rattle.names.specs.Name.{letter, word, starts_with_letter}
use Rattle.names.specs.ByteLaws.{letter_below, numeral_below}
use Rattle.names.specs.NameLaws.{word_starts}
use Rattle.names.specs.WordLaws.{word-empty}
use Rattle.cursor.specs.declared.First.{First}
use Rattle.cursor.specs.declared.First.TheVariants.{Letter, Digit, Bracket, Other}
use Rattle.cursor.specs.First.{first_of, first_at}

module _ (b : ℕ) where
  pub first_letter : letter b ≡ true → Letter ≡ first_of b
  unfolding first_of
  first_letter e = rw e refl

  pub first_digit : 0x30 ≤ b → b ≤ 0x39 → Digit ≡ first_of b
  unfolding first_of
  first_digit h g = rw (letter_below b (omega arith), numeral-between b h g) refl

  pub first_bracket : b ≡ 0x28 → Bracket ≡ first_of b
  unfolding first_of
  first_bracket e = rw (letter_below b (omega arith), numeral_below b (omega arith), eq-eqb b 0x28 e) refl

  pub first_other : letter b ≡ false → numeral b ≡ false → (b ≡ 0x28 → ⊥) → Other ≡ first_of b
  unfolding first_of
  first_other l n k = rw (l, n, ne_eqb b 0x28 k) refl

pub first_inside : (s : List ℕ) (at : ℕ) → at < length s → first_of (get_or s at 0) ≡ first_at (drop at s)
unfolding first_at
first_inside s at h = rw (drop-cons s at 0 h) refl

pub first_past : (s : List ℕ) (at : ℕ) → length s ≤ at → Other ≡ first_at (drop at s)
unfolding first_at
first_past s at h = rw (drop_of_length-le s h) refl

-- ---- what each kind says of the byte
abbrev pub Opens : First → Bool → Bool → Bool → Type 0
Opens Letter l n k = l ≡ true
Opens Digit l n k = (l ≡ false) × (n ≡ true)
Opens Bracket l n k = (l ≡ false) × (n ≡ false) × (k ≡ true)
Opens Other l n k = (l ≡ false) × (n ≡ false) × (k ≡ false)

opens : (l n k : Bool) → Opens (pick l Letter (pick n Digit (pick k Bracket Other))) l n k
opens true n k = refl
opens false true k = (refl, refl)
opens false false true = (refl, refl, refl)
opens false false false = (refl, refl, refl)

pub byte_opens : (b : ℕ) (f : First) → first_of b ≡ f → Opens f (letter b) (numeral b) (eqb b open_bracket)
unfolding first_of
byte_opens b f e = rw e at (opens (letter b) (numeral b) (eqb b open_bracket))

pub letter_starts : (t : List ℕ) → first_at t ≡ Letter → starts_with_letter (word t) ≡ true
unfolding first_at first_of
letter_starts [] e = let z : ◌≡◌ {A = ℕ} 0 1 = cc in absurd (omega arith)
letter_starts (b ∷ s) e = word_starts b s ∙ byte_opens b Letter e

pub no_letter_starts : (t : List ℕ) → (first_at t ≡ Letter → ⊥) → starts_with_letter (word t) ≡ false
unfolding first_at first_of
no_letter_starts [] e = rw word-empty refl
no_letter_starts (b ∷ s) e = word_starts b s ∙ not_first (letter b) e
  where
    not_first : (l : Bool)
        → (pick l Letter (pick (numeral b) Digit (pick (eqb b open_bracket) Bracket Other)) ≡ Letter → ⊥)
        → l ≡ false
    not_first true e = absurd (e refl)
    not_first false e = refl
