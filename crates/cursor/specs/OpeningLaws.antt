-- What opens a formula is read exactly where it stands at the front of a text; after a name the text stops.
-- Assumes nothing.
use Rattle.std.specs.Prelude.{◌≡◌, refl, Bool, true, false, List, [], ◌∷◌, ◌++◌, ℕ, ◌<◌, eqb, length}
use Rattle.std.proofs.Common.{ap, ap₂, ◌∙◌, arith, length-append, eqb-true}
use Rattle.bits.specs.Logic.{pick}
use Rattle.text.specs.Bytes.{bytes, same, found, bad, after, eat, space, open_bracket}
use Rattle.text.specs.Number.{numeral}
use Rattle.text.specs.EatLaws.{bad_found, found-item, found-rest, after-found}
use Rattle.text.specs.After.{byte_found}
use Rattle.names.specs.Name.{Name, letter, name_byte, word, after_word, read_name, is_name, Operator, not_op, and_op, or_op, xor_op, none_op, operator, is_operator}
use Rattle.names.specs.Front.{Stops}
use Rattle.names.specs.IsNameLaws.{name_starts}
use Rattle.names.specs.NameLaws.{word_after, name_not_empty}
use Rattle.names.specs.ReadLaws.{name_read_of_print, name_print_of_read}
use Rattle.names.specs.OperatorLaws.{operator_word, operator-word}
use Rattle.cursor.specs.Opening.{and_gate, or_gate, xor_gate, Opening, name-opens, digit-opens, not-opens, gate_opens, spaced, read_opening}
use Rattle.cursor.specs.Front.{opening_print, opening_spelled, OpeningEnds, OpeningFront}

-- ---- from the print
name_opening : (n : Name) (t : List ℕ) → is_name n ≡ true → Stops t → read_opening (n ++ t) ≡ found (name-opens n) t
unfolding read_opening
name_opening [] t e h = absurd (let z = name_not_empty [] e in omega arith)
name_opening (b ∷ n) t e h = rw (name_starts (b ∷ n) e, name_read_of_print (b ∷ n) t e h) refl

pub opening_read_of_print : (i : Opening) (t : List ℕ) → opening_spelled i ≡ true → OpeningEnds i t → read_opening (opening_print i ++ t) ≡ found i t
unfolding read_opening letter name_byte numeral word after_word operator same eat
opening_read_of_print (name-opens n) t e h = name_opening n t e h
opening_read_of_print (digit-opens false) t e h = refl
opening_read_of_print (digit-opens true) t e h = refl
opening_read_of_print not-opens t e h = refl
opening_read_of_print (gate_opens and_gate) t e h = refl
opening_read_of_print (gate_opens or_gate) t e h = refl
opening_read_of_print (gate_opens xor_gate) t e h = refl

-- ---- to the print
-- a bracket, the word w of an operator, and its space
opens : (o i : Opening) (w v a t : List ℕ) → opening_spelled o ≡ true → OpeningEnds o t → w ≡ v
    → open_bracket ∷ (v ++ (space ∷ t)) ≡ opening_print o ++ t → after (eat (space ∷ []) a) (λ _ u. found o u) ≡ found i t
    → OpeningFront (open_bracket ∷ (w ++ a)) i t
opens o i w v a t sp en q pr e =
    let f = byte_found space o i a t e in
    rw f.0 at (here f.1)
  where
    here : a ≡ space ∷ t → OpeningFront (open_bracket ∷ (w ++ a)) o t
    here g = record { is_spelled = sp; is_split = ap₂ (λ (x u : List ℕ). open_bracket ∷ (x ++ u)) q g ∙ pr; ends = en }

operator-opens : (o : Operator) (i : Opening) (w a t : List ℕ) → (is_operator o ≡ true → w ≡ operator_word o)
    → spaced o a ≡ found i t → OpeningFront (open_bracket ∷ (w ++ a)) i t
operator-opens not_op i w a t h e = opens not-opens i w (bytes "not") a t refl tt (h refl) refl e
operator-opens and_op i w a t h e = opens (gate_opens and_gate) i w (bytes "and") a t refl tt (h refl) refl e
operator-opens or_op i w a t h e = opens (gate_opens or_gate) i w (bytes "or") a t refl tt (h refl) refl e
operator-opens xor_op i w a t h e = opens (gate_opens xor_gate) i w (bytes "xor") a t refl tt (h refl) refl e
operator-opens none_op i w a t h e = absurd (bad_found e)

name_opens_front : (s : List ℕ) (i : Opening) (t : List ℕ) → after (read_name s) (λ n u. found (name-opens n) u) ≡ found i t → OpeningFront s i t
name_opens_front s i t e =
    let (n, u, f, g) = after-found (read_name s) (λ n u. found (name-opens n) u) i t e in
    rw (found-item g, found-rest g) at (here n u f)
  where
    here : (n : Name) (u : List ℕ) → read_name s ≡ found n u → OpeningFront s (name-opens n) u
    here n u g =
        let f = name_print_of_read s n u g in
        record { is_spelled = f.is_name_lem; is_split = f.is_split; ends = f.stops }

digit_opens_front : (v : Bool) (d b : ℕ) (s : List ℕ) (i : Opening) (t : List ℕ) → eqb b d ≡ true
    → opening_print (digit-opens v) ≡ d ∷ [] → found (digit-opens v) s ≡ found i t → OpeningFront (b ∷ s) i t
digit_opens_front v d b s i t q pr e = rw (found-item e) at here
  where
    here : OpeningFront (b ∷ s) (digit-opens v) t
    here = record { is_spelled = refl; is_split = rw (eqb-true b d q, found-rest e, pr) refl; ends = tt }

bracket_opens_front : (b : ℕ) (s : List ℕ) (i : Opening) (t : List ℕ) → eqb b open_bracket ≡ true
    → spaced (operator (word s)) (after_word s) ≡ found i t → OpeningFront (b ∷ s) i t
bracket_opens_front b s i t q e =
    rw (eqb-true b open_bracket q, ← word_after s)
    (operator-opens (operator (word s)) i (word s) (after_word s) t (operator-word (word s) (operator (word s)) refl) e)

first_byte : (b : ℕ) (s : List ℕ) (i : Opening) (t : List ℕ) (l z o k : Bool) → eqb b 0x30 ≡ z → eqb b 0x31 ≡ o → eqb b open_bracket ≡ k
    → pick l (after (read_name (b ∷ s)) (λ n u. found (name-opens n) u))
    (pick z (found (digit-opens false) s)
    (pick o (found (digit-opens true) s) (pick k (spaced (operator (word s)) (after_word s)) bad))) ≡ found i t
    → OpeningFront (b ∷ s) i t
first_byte b s i t true z o k p q r e = name_opens_front (b ∷ s) i t e
first_byte b s i t false true o k p q r e = digit_opens_front false 0x30 b s i t p refl e
first_byte b s i t false false true k p q r e = digit_opens_front true 0x31 b s i t q refl e
first_byte b s i t false false false true p q r e = bracket_opens_front b s i t r e
first_byte b s i t false false false false p q r e = absurd (bad_found e)

pub opening_print_of_read : (s : List ℕ) (i : Opening) (t : List ℕ) → read_opening s ≡ found i t → OpeningFront s i t
unfolding read_opening
opening_print_of_read [] i t e = absurd (bad_found e)
opening_print_of_read (b ∷ s) i t e = first_byte b s i t (letter b) (eqb b 0x30) (eqb b 0x31) (eqb b open_bracket) refl refl refl e

-- ---- the text after an opening is shorter
opening_long : (i : Opening) → opening_spelled i ≡ true → 0 < length (opening_print i)
opening_long (name-opens n) e = name_not_empty n e
opening_long (digit-opens false) e = omega arith
opening_long (digit-opens true) e = omega arith
opening_long not-opens e = omega arith
opening_long (gate_opens and_gate) e = omega arith
opening_long (gate_opens or_gate) e = omega arith
opening_long (gate_opens xor_gate) e = omega arith

pub opening_shorter : (s : List ℕ) (i : Opening) (t : List ℕ) → read_opening s ≡ found i t → length t < length s
opening_shorter s i t e =
    let f = opening_print_of_read s i t e in
    let h = opening_long i f.is_spelled in
    omega (arith, simp length-append at (ap length f.is_split))
