-- Which texts are names: what makes one, and what a name is. Assumes nothing.
use Rattle.std.specs.Prelude.{◌≡◌, refl, Bool, true, false, ◌&&◌, List, [], ◌∷◌, ◌++◌, ℕ, ◌≤◌, ◌<◌, length}
use Rattle.std.proofs.Common.{sym, ◌∙◌, ⊎_elim, arith, leb-true, le-leb}
use Rattle.std.proofs.Math.Path.{ap}
use Rattle.std.proofs.Math.Bool.{not, and-false}
use Rattle.std.proofs.Math.Dec.{leb}
use Rattle.std.proofs.lemmas.Bool.{lt-leb}
use Rattle.bits.specs.LogicLaws.{true_false, and_left, and_right, and_both, or_cases}
use Rattle.limits.specs.Limits.{max_name}
use Rattle.text.specs.Number.{numeral}
use Rattle.text.specs.NumeralLaws.{numeral-low, numeral_high}
use Rattle.text.specs.Solid.{solid}
use Rattle.text.specs.SolidLaws.{solid_more}
use Rattle.names.specs.Case.{small, capital}
use Rattle.names.specs.Name.{Name, among, operator_words, letter, name_byte, all_name_bytes, starts_with_letter, is_name}
use Rattle.names.specs.CaseLaws.{small-between, capital-between}

pub is_name_lem : (n : Name) → starts_with_letter n ≡ true → all_name_bytes n ≡ true → length n ≤ max_name → among n operator_words ≡ false → is_name n ≡ true
unfolding is_name
is_name_lem n l a h o =
    and_both (starts_with_letter n && all_name_bytes n && leb (length n) max_name) (not (among n operator_words))
    (and_both (starts_with_letter n && all_name_bytes n) (leb (length n) max_name) (and_both (starts_with_letter n) (all_name_bytes n) l a) (le-leb (length n) max_name h))
    (ap not o)

module _ (n : Name) (e : is_name n ≡ true) where
  short_and_bytes : starts_with_letter n && all_name_bytes n && leb (length n) max_name ≡ true
  unfolding is_name
  short_and_bytes = and_left (starts_with_letter n && all_name_bytes n && leb (length n) max_name) (not (among n operator_words)) e

  letter_and_bytes : starts_with_letter n && all_name_bytes n ≡ true
  letter_and_bytes = and_left (starts_with_letter n && all_name_bytes n) (leb (length n) max_name) short_and_bytes

  pub name_starts : starts_with_letter n ≡ true
  name_starts = and_left (starts_with_letter n) (all_name_bytes n) letter_and_bytes

  pub name-bytes : all_name_bytes n ≡ true
  name-bytes = and_right (starts_with_letter n) (all_name_bytes n) letter_and_bytes

  pub name_short : length n ≤ max_name
  name_short = leb-true (length n) max_name (and_right (starts_with_letter n && all_name_bytes n) (leb (length n) max_name) short_and_bytes)

-- ---- its bytes
letter-between : (b : ℕ) → letter b ≡ true → (0x41 ≤ b) × (b ≤ 0x7A)
unfolding letter
letter-between b e =
    ⊎_elim
    (λ s. omega (arith, small-between b s))
    (λ c. omega (arith, capital-between b c))
    (or_cases (small b) (capital b) e)

pub name_byte_between : (b : ℕ) → name_byte b ≡ true → (0x30 ≤ b) × (b ≤ 0x7A)
unfolding name_byte
name_byte_between b e =
    ⊎_elim
    (λ l. omega (arith, letter-between b l))
    (λ d. omega (arith, numeral-low b d, numeral_high b d))
    (or_cases (letter b) (numeral b) e)

bytes-solid : (n : List ℕ) → all_name_bytes n ≡ true → solid n ≡ true
unfolding solid
bytes-solid [] h = refl
bytes-solid (b ∷ n) h =
    let r = name_byte_between b (and_left (name_byte b) (all_name_bytes n) h) in
    solid_more b n (omega (arith, r)) (bytes-solid n (and_right (name_byte b) (all_name_bytes n) h))

pub name-solid : (n : Name) → is_name n ≡ true → solid n ≡ true
name-solid n h = bytes-solid n (name-bytes n h)

-- `_` and `\`, which stand between the capitals and the small letters
underscore_no_name_byte : name_byte 0x5F ≡ false
unfolding name_byte letter numeral
underscore_no_name_byte = refl

pub backslash_no_name_byte : name_byte 0x5C ≡ false
unfolding name_byte letter numeral
backslash_no_name_byte = refl

byte_inside : (s : List ℕ) (b : ℕ) (t : List ℕ) → all_name_bytes (s ++ (b ∷ t)) ≡ true → name_byte b ≡ true
byte_inside [] b t h = and_left (name_byte b) (all_name_bytes t) h
byte_inside (c ∷ s) b t h = byte_inside s b t (and_right (name_byte c) (all_name_bytes (s ++ (b ∷ t))) h)

pub name_no_underscore : (s : List ℕ) (b : ℕ) (t : List ℕ) → is_name (s ++ (b ∷ t)) ≡ true → b ≡ 0x5F → ⊥
name_no_underscore s b t h e = true_false (sym (byte_inside s b t (name-bytes (s ++ (b ∷ t)) h)) ∙ ap name_byte e ∙ underscore_no_name_byte)

-- ---- what is no name
module _ (n : Name) where
  pub no_letter_no_name : starts_with_letter n ≡ false → is_name n ≡ false
  unfolding is_name
  no_letter_no_name e = ap (λ (t : Bool). t && all_name_bytes n && leb (length n) max_name && not (among n operator_words)) e

  pub long_no_name : max_name < length n → is_name n ≡ false
  unfolding is_name
  long_no_name h =
      ap (λ (t : Bool). starts_with_letter n && all_name_bytes n && t && not (among n operator_words)) (lt-leb (length n) max_name h)
      ∙ ap (λ (t : Bool). t && not (among n operator_words)) (and-false (starts_with_letter n && all_name_bytes n))

  pub operator_no_name : among n operator_words ≡ true → is_name n ≡ false
  unfolding is_name
  operator_no_name e =
      ap (λ (t : Bool). starts_with_letter n && all_name_bytes n && leb (length n) max_name && not t) e
      ∙ and-false (starts_with_letter n && all_name_bytes n && leb (length n) max_name)
