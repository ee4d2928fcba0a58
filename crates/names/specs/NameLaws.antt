-- Names at the front of a text: a word and what follows it are the text, so a name that is read makes the text shorter.
-- Assumes nothing.
use Rattle.std.specs.Prelude.{◌≡◌, refl, Bool, true, false, ◌||◌, List, [], ◌∷◌, ◌++◌, ℕ, ◌+◌, ◌≤◌, ◌<◌, length}
use Rattle.std.proofs.Common.{sym, ap₂, subst, ◌∙◌, arith, length-append}
use Rattle.std.proofs.Math.Path.{ap}
use Rattle.limits.specs.Limits.{max_name}
use Rattle.bits.specs.Logic.{pick}
use Rattle.bits.specs.LogicLaws.{true_false, and_both}
use Rattle.text.specs.Bytes.{found, bad}
use Rattle.text.specs.Number.{numeral}
use Rattle.names.specs.Name.{Name, letter, name_byte, word, after_word, all_name_bytes, starts_with_letter, is_name, read_name}
use Rattle.names.specs.Pack.{pack, name_of}
use Rattle.names.specs.IsNameLaws.{name_starts}
use Rattle.names.specs.PackLaws.{name_bytes_back}

-- by whether a test holds
by_test : (P : Bool → Type 0) (t : Bool) → (t ≡ true → P true) → (t ≡ false → P false) → P t
by_test P true y n = y refl
by_test P false y n = n refl

-- ---- a word and what follows it
pub word_after : (s : List ℕ) → word s ++ after_word s ≡ s
unfolding word after_word
word_after [] = refl
word_after (b ∷ s) =
    by_test (λ (t : Bool). pick t (b ∷ word s) [] ++ pick t (after_word s) (b ∷ s) ≡ b ∷ s) (name_byte b)
    (λ _. ap (λ (x : List ℕ). b ∷ x) (word_after s))
    (λ _. refl)

pub word_name_bytes : (s : List ℕ) → all_name_bytes (word s) ≡ true
unfolding word
word_name_bytes [] = refl
word_name_bytes (b ∷ s) =
    by_test (λ (t : Bool). all_name_bytes (pick t (b ∷ word s) []) ≡ true) (name_byte b)
    (λ e. and_both (name_byte b) (all_name_bytes (word s)) e (word_name_bytes s))
    (λ _. refl)

pub word_back : (s : List ℕ) → length (word s) ≤ max_name → name_of (pack (word s)) ≡ word s
word_back s h = name_bytes_back (word s) (word_name_bytes s) h

letter_name_byte : (b : ℕ) → letter b ≡ true → name_byte b ≡ true
unfolding name_byte
letter_name_byte b e = ap (λ (t : Bool). t || numeral b) e

no_letter : (b : ℕ) → name_byte b ≡ false → letter b ≡ false
no_letter b e = by_test (λ (t : Bool). t ≡ false) (letter b) (λ l. sym (letter_name_byte b l) ∙ e) (λ _. refl)

pub word_starts : (b : ℕ) (s : List ℕ) → starts_with_letter (word (b ∷ s)) ≡ letter b
unfolding word
word_starts b s =
    by_test (λ (t : Bool). starts_with_letter (pick t (b ∷ word s) []) ≡ letter b) (name_byte b)
    (λ _. refl)
    (λ e. sym (no_letter b e))

-- ---- reading a name
module _ (s : List ℕ) where
  pub read_name_found : is_name (word s) ≡ true → read_name s ≡ found (word s) (after_word s)
  unfolding read_name
  read_name_found e = ap (λ (t : Bool). pick t (found (word s) (after_word s)) bad) e

  pub read_name_bad : is_name (word s) ≡ false → read_name s ≡ bad
  unfolding read_name
  read_name_bad e = ap (λ (t : Bool). pick t (found (word s) (after_word s)) bad) e

never_found : {n : Name} {t : List ℕ} → bad ≡ found n t → ⊥
never_found e =
    let z : ◌≡◌ {A = ℕ} 0 1 = cc in
    omega arith

pub read_name_word : (s : List ℕ) {t : List ℕ} {n : Name} → read_name s ≡ found n t → (is_name n ≡ true) × (word s ≡ n) × (after_word s ≡ t)
read_name_word s {t} {n} e =
    by_test (λ (b : Bool). (is_name n ≡ true) × (word s ≡ n) × (after_word s ≡ t)) (is_name (word s))
    (λ y.
    let f : found (word s) (after_word s) ≡ found n t = sym (read_name_found s y) ∙ e in
    let w : word s ≡ n = cc in
    let r : after_word s ≡ t = cc in
    (subst (λ (m : Name). is_name m ≡ true) w y, w, r))
    (λ y. absurd (never_found (sym (read_name_bad s y) ∙ e)))

pub read_name_parts : (s : List ℕ) {t : List ℕ} {n : Name} → read_name s ≡ found n t → (is_name n ≡ true) × (s ≡ n ++ t)
read_name_parts s e =
    let p = read_name_word s e in
    (p.0, sym (word_after s) ∙ ap₂ ◌++◌ p.1 p.2)

pub name_not_empty : (n : Name) → is_name n ≡ true → 0 < length n
name_not_empty [] e = absurd (true_false (sym (name_starts [] e)))
name_not_empty (b ∷ s) e = omega arith

pub read_name_shorter : (s : List ℕ) {t : List ℕ} {n : Name} → read_name s ≡ found n t → length t < length s
read_name_shorter s {t} {n} e =
    let p = read_name_parts s e in
    let l : length s ≡ length n + length t = ap length p.1 ∙ length-append n t in
    omega (arith, name_not_empty n p.0)
