-- What opens a formula, by the kind of the first byte: a name, a digit, or a bracket with an operator word and a space.
-- Assumes nothing.
use Rattle.std.specs.Prelude.{◌≡◌, refl, true, false, List, [], ◌∷◌, ℕ, ◌≤◌, ◌<◌, eqb, length, drop, Option, Some, None}
use Rattle.std.proofs.Common.{sym, ap, ◌∙◌, arith, ne_eqb, eqb-true}
use Rattle.bits.specs.Logic.{pick}
use Rattle.bits.specs.LogicLaws.{true_false}
use Rattle.limits.specs.Limits.{max_name}
use Rattle.text.specs.Bytes.{bytes, same, Read, found, bad, after, eat, space, open_bracket}
use Rattle.text.specs.BytesLaws.{differ_same}
use Rattle.text.specs.EatLaws.{eat-found}
use Rattle.text.specs.Number.{numeral}
use Rattle.text.specs.NumeralLaws.{numeral-low, numeral-between}
use Rattle.names.specs.Name.{word, after_word, read_name, operator}
use Rattle.names.specs.Word.{WordEnd, operator_of}
use Rattle.names.specs.declared.Operator.{Operator}
use Rattle.names.specs.declared.Operator.TheVariants.{Not, And, Or, Xor}
use Rattle.names.specs.Name as names
use Rattle.cursor.specs.declared.Cursor.{Cursor}
use Rattle.cursor.specs.declared.First.TheVariants.{Letter, Digit, Bracket, Other}
use Rattle.cursor.specs.declared.Gate.{Gate}
use Rattle.cursor.specs.declared.Opening.{Opening}
use Rattle.cursor.specs.First.{first_at}
use Rattle.cursor.specs.FirstLaws.{byte_opens}
use Rattle.cursor.specs.EatingLaws.{missing_byte}
use Rattle.cursor.specs.Item.{At, OpeningIs, from}
use Rattle.cursor.specs.OperatorRead.{OperatorIs}
use Rattle.cursor.specs.Opening.{name-opens, digit-opens, not-opens, gate_opens, spaced, read_opening}
use Rattle.cursor.specs.Opening as spec

-- an item found there, as an item of another kind
item_as : {A B : Type 0} (s : List ℕ) (a : A) (c : Cursor) (r : Read A) (f : A → B)
    → At s a c r → At s (f a) c (after r (λ x t. found (f x) t))
item_as s a c r f h =
    record { inside = h.inside; is = ap (λ q. after q (λ x t. found (f x) t)) h.is }

-- ---- a letter
opening_name : (t : List ℕ) → first_at t ≡ Letter → after (read_name t) (λ n u. found (name-opens n) u) ≡ read_opening t
unfolding read_opening first_at
opening_name [] e = let z : ◌≡◌ {A = ℕ} 0 1 = cc in absurd (omega arith)
opening_name (b ∷ s) e = rw (byte_opens b Letter e) refl

pub name_opened : (s t : List ℕ) (n : names.Name) (c : Cursor)
    → first_at t ≡ Letter → At s n c (read_name t) → At s (name-opens n) c (read_opening t)
name_opened s t n c e h = rw (← opening_name t e) (item_as s n c (read_name t) name-opens h)

pub name_bad : (t : List ℕ) → first_at t ≡ Letter → bad ≡ read_name t → bad ≡ read_opening t
name_bad t e h = ap (λ (q : Read names.Name). after q (λ n u. found (name-opens n) u)) h ∙ opening_name t e

-- ---- a digit
no_digit : (b d : ℕ) → 0x30 ≤ d → d ≤ 0x39 → numeral b ≡ false → eqb b d ≡ false
no_digit b d h g n = ne_eqb b d (λ q. true_false (sym (numeral-between d h g) ∙ rw q at n))

opening_digit : (b : ℕ) (s : List ℕ)
    → first_at (b ∷ s) ≡ Digit
    → pick (eqb b 0x30) (found (digit-opens false) s) (pick (eqb b 0x31) (found (digit-opens true) s) bad) ≡ read_opening (b ∷ s)
unfolding read_opening first_at
opening_digit b s e =
    let k = byte_opens b Digit e in
    let g : eqb b open_bracket ≡ false = ne_eqb b open_bracket (λ q. omega (arith, numeral-low b k.1)) in
    rw (k.0, g) refl

module _ (s t : List ℕ) (e : first_at t ≡ Digit) where
  pub zero_opened : (c : Cursor) → At s tt c (eat (0x30 ∷ []) t) → At s (digit-opens false) c (read_opening t)
  zero_opened c h =
      let q = eat-found (0x30 ∷ []) t (from s c) (sym h.is) in
      record { inside = h.inside; is = rw q (opening_digit 0x30 (from s c) (rw q at e)) }

  pub one_opened : (c : Cursor) → At s tt c (eat (0x31 ∷ []) t) → At s (digit-opens true) c (read_opening t)
  one_opened c h =
      let q = eat-found (0x31 ∷ []) t (from s c) (sym h.is) in
      record { inside = h.inside; is = rw q (opening_digit 0x31 (from s c) (rw q at e)) }

pub digit_bad : (t : List ℕ) → first_at t ≡ Digit → bad ≡ eat (0x30 ∷ []) t → bad ≡ eat (0x31 ∷ []) t → bad ≡ read_opening t
unfolding first_at
digit_bad [] e z o = let z : ◌≡◌ {A = ℕ} 0 1 = cc in absurd (omega arith)
digit_bad (b ∷ s) e z o = rw (ne_eqb b 0x30 (missing_byte b 0x30 s z), ne_eqb b 0x31 (missing_byte b 0x31 s o)) at (opening_digit b s e)

-- ---- a bracket
opening_bracket : (b : ℕ) (s : List ℕ)
    → first_at (b ∷ s) ≡ Bracket → spaced (operator (word s)) (after_word s) ≡ read_opening (b ∷ s)
unfolding read_opening first_at
opening_bracket b s e =
    let k = byte_opens b Bracket e in
    rw (k.0, no_digit b 0x30 (omega arith) (omega arith) k.1, no_digit b 0x31 (omega arith) (omega arith) k.1, k.2) refl

longer_differs : (w t : List ℕ) → length t < length w → same w t ≡ false
longer_differs w t h = differ_same w t (λ e. omega (arith, ap length e))

pub long_no_operator : (w : List ℕ) → max_name < length w → names.none_op ≡ operator w
unfolding operator
long_no_operator w h =
    let n = longer_differs w (bytes "not") (omega arith) in
    let a = longer_differs w (bytes "and") (omega arith) in
    let o = longer_differs w (bytes "or") (omega arith) in
    let x = longer_differs w (bytes "xor") (omega arith) in
    rw (n, a, o, x) refl

-- what the code answers where a space follows the operator
abbrev pub operator_opens : Operator → Cursor → Opening
operator_opens Not c = Opening.Not c
operator_opens And c = Opening.Gate Gate.And c
operator_opens Or c = Opening.Gate Gate.Or c
operator_opens Xor c = Opening.Gate Gate.Xor c

spaced-opens : (s u : List ℕ) (o : Operator) (c : Cursor)
    → At s tt c (eat (space ∷ []) u) → OpeningIs s (Some (operator_opens o c)) (spaced (operator_of (Some o)) u)
spaced-opens s u Not c h = item_as s tt c (eat (space ∷ []) u) (λ _. not-opens) h
spaced-opens s u And c h = item_as s tt c (eat (space ∷ []) u) (λ _. gate_opens spec.and_gate) h
spaced-opens s u Or c h = item_as s tt c (eat (space ∷ []) u) (λ _. gate_opens spec.or_gate) h
spaced-opens s u Xor c h = item_as s tt c (eat (space ∷ []) u) (λ _. gate_opens spec.xor_gate) h

no_space_bad : (u : List ℕ) (o : names.Operator) → bad ≡ eat (space ∷ []) u → bad ≡ spaced o u
no_space_bad u names.not_op h = rw (← h) refl
no_space_bad u names.and_op h = rw (← h) refl
no_space_bad u names.or_op h = rw (← h) refl
no_space_bad u names.xor_op h = rw (← h) refl
no_space_bad u names.none_op h = refl

-- the operator that a word is, by where the word ends
pub word_operator : {s : List ℕ} {at e : ℕ} {o : Option Operator} → WordEnd s at e → operator_of o ≡ operator (word (drop at s)) → OperatorIs s at e o
word_operator w i = record { inside = w.inside; is_operator = i; is_rest = w.is_rest }

-- a bracket stands at the front of t, and the word after it, which is the operator o, ends at e
module _ (s t : List ℕ) (f : first_at t ≡ Bracket) (a : Cursor) (h : At s tt a (eat (open_bracket ∷ []) t)) (e : ℕ)
    (o : Option Operator) (i : OperatorIs s a.at e o) where
  bracket_here : spaced (operator_of o) (drop e s) ≡ read_opening t
  bracket_here =
      let q = eat-found (open_bracket ∷ []) t (from s a) (sym h.is) in
      rw (i.is_operator, i.is_rest, q) (opening_bracket open_bracket (from s a) (rw q at f))

  pub operator_opened : (p : Operator) (c : Cursor) → o ≡ Some p → At s tt c (eat (space ∷ []) (drop e s))
      → OpeningIs s (Some (operator_opens p c)) (read_opening t)
  operator_opened p c q k = rw (← bracket_here, q) (spaced-opens s (drop e s) p c k)

  pub no_operator_bad : o ≡ None → bad ≡ read_opening t
  no_operator_bad q = ap (λ (x : Option Operator). spaced (operator_of x) (drop e s)) (sym q) ∙ bracket_here

  pub unspaced_bad : bad ≡ eat (space ∷ []) (drop e s) → bad ≡ read_opening t
  unspaced_bad k = no_space_bad (drop e s) (operator_of o) k ∙ bracket_here

pub bracket_bad : (t : List ℕ) → first_at t ≡ Bracket → bad ≡ eat (open_bracket ∷ []) t → bad ≡ read_opening t
unfolding first_at
bracket_bad [] e h = let z : ◌≡◌ {A = ℕ} 0 1 = cc in absurd (omega arith)
bracket_bad (b ∷ s) e h = absurd (missing_byte b open_bracket s h (eqb-true b open_bracket (byte_opens b Bracket e).2))

-- ---- anything else
pub opening_other : (t : List ℕ) → first_at t ≡ Other → bad ≡ read_opening t
unfolding read_opening first_at
opening_other [] e = refl
opening_other (b ∷ s) e =
    let k = byte_opens b Other e in
    rw (k.0, no_digit b 0x30 (omega arith) (omega arith) k.1, no_digit b 0x31 (omega arith) (omega arith) k.1, k.2) refl
