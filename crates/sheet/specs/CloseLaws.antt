-- The closing bracket at the end of a line: what stands after an item is the bracket and nothing besides just where the
-- item is the whole line. Assumes nothing.
use Rattle.std.specs.Prelude.{◌≡◌, refl, Bool, true, false, List, [], ◌∷◌, ℕ, ◌-◌, eqb, leb, length, drop}
use Rattle.std.proofs.Common.{sym, ap, ◌∙◌, arith, length-drop, eq-eqb, ne_eqb, eqb-true, le-leb}
use Rattle.std.proofs.Math.Option.{some, none}
use Rattle.std.proofs.lemmas.Bool.{eqb-false, lt-leb}
use Rattle.bits.specs.Logic.{pick}
use Rattle.text.specs.Bytes.{found, bad, after, eat, whole, close_bracket}
use Rattle.text.specs.EatLaws.{eat-found}
use Rattle.cursor.specs.EatingLaws.{missing_byte}
use Rattle.cursor.specs.Item.{At, from}
use Rattle.cursor.specs.declared.Cursor.{Cursor}
use Rattle.sheet.specs.Lines.{closed}
use Rattle.sheet.specs.Known.{closes_at}

-- ---- by the bracket, where it is read
pub closes_there : (l : List ℕ) (at : ℕ) (c : Cursor) → At l tt c (eat (close_bracket ∷ []) (drop at l))
    → leb (length l) c.at ≡ closes_at (drop at l)
closes_there l at c h =
    by (from l c) (length-drop c.at l) ∙ ap closes_at (sym (eat-found (close_bracket ∷ []) (drop at l) (from l c) (sym h.is)))
  where
    by : (t : List ℕ) → length t ≡ length l - c.at → leb (length l) c.at ≡ closes_at (close_bracket ∷ t)
    by [] e = le-leb (length l) c.at (omega arith)
    by (b ∷ t) e = lt-leb (length l) c.at (omega arith)

pub closes_not : (t : List ℕ) → bad ≡ eat (close_bracket ∷ []) t → false ≡ closes_at t
closes_not [] e = refl
closes_not (b ∷ []) e = sym (ne_eqb b close_bracket (missing_byte b close_bracket [] e))
closes_not (b ∷ c ∷ s) e = refl

-- ---- a line that is an item and the bracket
eqb_turned : (a b : ℕ) (t : Bool) → eqb a b ≡ t → eqb b a ≡ t
eqb_turned a b true e = eq-eqb b a (sym (eqb-true a b e))
eqb_turned a b false e = ne_eqb b a (λ q. eqb-false a b e (sym q))

-- a test of the next byte and an item, where the rest of the line is empty, and where it is not
closed_then_empty : {A : Type 0} (a : A) (t : Bool)
    → whole (after (pick t (found (tt {0}) []) bad) (λ _ u. found a u)) ≡ pick t (some a) none
closed_then_empty a true = refl
closed_then_empty a false = refl

closed_then_more : {A : Type 0} (a : A) (t : Bool) (b : ℕ) (s : List ℕ)
    → whole (after (pick t (found (tt {0}) (b ∷ s)) bad) (λ _ u. found a u)) ≡ none
closed_then_more a true b s = refl
closed_then_more a false b s = refl

pub closed-whole : {A : Type 0} (a : A) (s : List ℕ) → whole (closed (found a s)) ≡ pick (closes_at s) (some a) none
unfolding eat
closed-whole a [] = refl
closed-whole a (b ∷ []) =
    closed_then_empty a (eqb close_bracket b)
    ∙ ap (λ (t : Bool). pick t (some a) none) (sym (eqb_turned close_bracket b (eqb close_bracket b) refl))
closed-whole a (b ∷ c ∷ s) = closed_then_more a (eqb close_bracket b) c s
