-- A byte after what was read so far, as a space before a further operand: less of the text is left after it, and where it is
-- missing no operand follows. Assumes nothing.
use Rattle.std.specs.Prelude.{◌≡◌, refl, Bool, true, false, List, [], ◌∷◌, ℕ, ◌≤◌, ◌<◌, eqb, length}
use Rattle.std.proofs.Common.{sym, ◌∙◌, arith, eq-eqb, eqb-true}
use Rattle.bits.specs.Logic.{pick}
use Rattle.bits.specs.LogicLaws.{true_false}
use Rattle.text.specs.Bytes.{Read, found, bad, after, eat, space}
use Rattle.text.specs.EatLaws.{bad_found, found-rest, eat-found, eat_lengths}
use Rattle.formula.specs.Tree.{Formula, none, more}
use Rattle.formula.specs.Reader.{space_next, read_formula, read_operands}
use Rattle.formula.specs.ReaderLaws.{formula_shorter, operands_more, operands_none}
use Rattle.formula.specs.Skim.{spelling, left}

-- ---- what is left of the text falls
pub byte_shorter : (b : ℕ) (t v : List ℕ) → found tt v ≡ eat (b ∷ []) t → length v < length t
byte_shorter b t v e = omega (arith, eat_lengths (b ∷ []) t v (sym e))

pub byte_falls : (b : ℕ) (x : Read (Unit {0})) (v : List ℕ) → found tt v ≡ after x (λ _ t. eat (b ∷ []) t) → length v < left x
byte_falls b (found _ t) v e = byte_shorter b t v e
byte_falls b bad v e = absurd (bad_found (sym e))

pub spelled_shorter : (s t : List ℕ) → found tt t ≡ spelling (read_formula s) → length t < length s
spelled_shorter s t e = by (read_formula s) refl e
  where
    by : (q : Read Formula) → read_formula s ≡ q → found tt t ≡ spelling q → length t < length s
    by (found f u) h e = rw (found-rest e) (formula_shorter s f u h)
    by bad h e = absurd (bad_found (sym e))

pub formula_left : (s : List ℕ) (x : Read (Unit {0})) → x ≡ spelling (read_formula s) → left x ≤ length s
formula_left s (found _ t) e = omega (arith, spelled_shorter s t e)
formula_left s bad e = omega arith

pub unspelled : (q : Read Formula) → bad ≡ spelling q → bad ≡ q
unspelled (found f t) e = absurd (bad_found e)
unspelled bad e = refl

-- ---- a space, and an operand after it
pub operand_after : (t v : List ℕ) → found tt v ≡ eat (space ∷ []) t
    → read_operands t ≡ after (read_formula v) (λ f u. after (read_operands u) (λ fs w. found (more f fs) w))
operand_after t v e = rw (eat-found (space ∷ []) t v (sym e)) (operands_more (space ∷ v) (eq-eqb space space refl))

differs : (b : ℕ) → eqb space b ≡ false → eqb b space ≡ false
differs b h = turned (eqb b space) refl
  where
    turned : (t : Bool) → eqb b space ≡ t → t ≡ false
    turned true q = absurd (true_false (sym (eq-eqb space b (sym (eqb-true b space q))) ∙ h))
    turned false q = refl

missing : (t : List ℕ) → bad ≡ eat (space ∷ []) t → space_next t ≡ false
unfolding eat
missing [] e = refl
missing (b ∷ s) e = by (eqb space b) refl e
  where
    by : (t : Bool) → eqb space b ≡ t → bad ≡ pick t (found (tt {0}) s) bad → eqb b space ≡ false
    by true h e = absurd (bad_found e)
    by false h e = differs b h

pub no_operand_after : (t : List ℕ) → bad ≡ eat (space ∷ []) t → read_operands t ≡ found none t
no_operand_after t e = operands_none t (missing t e)
