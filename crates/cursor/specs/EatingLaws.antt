-- A fixed text is read byte by byte: while the bytes agree, what is left of both is read the same way. One byte is read in
-- one step. Assumes nothing.
use Rattle.std.specs.Prelude.{◌≡◌, Bool, true, false, List, [], ◌∷◌, ℕ, suc, ◌+◌, ◌-◌, ◌≤◌, ◌<◌, eqb, length, get_or, drop}
use Rattle.std.proofs.Math.Path.{refl}
use Rattle.std.proofs.Common.{sym, ap, ◌∙◌, add-one, arith, length-drop, drop_of_length-le}
use Rattle.std.proofs.Math.Seq.{drop-cons}
use borrow.Author.Tests.{eq-eqb, ne_eqb}
use Rattle.bits.specs.Logic.{pick}
use Rattle.text.specs.Bytes.{Read, bad, eat}
use Rattle.text.specs.EatLaws.{bad_found, eat_own}
use Rattle.cursor.specs.declared.Cursor.{Cursor}
use Rattle.cursor.specs.Item.{At}

-- i bytes of w stand at a place
pub record Eating (w s : List ℕ) (at i : ℕ) : Type 0 where
  pub within : i ≤ length w
  pub room : at + length w ≤ length s
  pub left : eat w (drop at s) ≡ eat (drop i w) (drop (at + i) s)

never : {A : Type 0} (t : Bool) → ◌≡◌ {A = Read A} bad (pick t bad bad)
never true = refl
never false = refl

short : (w s : List ℕ) → length s < length w → bad ≡ eat w s
unfolding eat
short [] s h = absurd (omega arith)
short (a ∷ w) [] h = refl
short (a ∷ w) (b ∷ s) h = rw (← short w s (omega arith)) (never (eqb a b))

pub too_short : (w s : List ℕ) (at : ℕ) → at ≤ length s → length s - at < length w → bad ≡ eat w (drop at s)
too_short w s at g h = short w (drop at s) (simp length-drop (omega arith))

pub eating_none : (w s : List ℕ) (at : ℕ) → at ≤ length s → length w ≤ length s - at → Eating w s at 0
eating_none w s at g h =
    let e : at + 0 ≡ at = omega arith in
    record { within = omega arith; room = omega arith; left = rw e refl }

module _ (w s : List ℕ) (at i : ℕ) (e : Eating w s at i) (more : i < length w) where
  step : eat w (drop at s) ≡ pick (eqb (get_or w i 0) (get_or s (at + i) 0)) (eat (drop (suc i) w) (drop (suc (at + i)) s)) bad
  unfolding eat
  step = e.left ∙ rw (drop-cons w i 0 more, drop-cons s (at + i) 0 (omega arith)) refl

  pub eating_more : get_or s (at + i) 0 ≡ get_or w i 0 → Eating w s at (i + 1)
  eating_more h =
      let g : at + (i + 1) ≡ suc (at + i) = omega arith in
      record { within = omega arith; room = e.room; left = step ∙ rw (eq-eqb _ _ (sym h), g, add-one) refl }

  pub eating_differs : (get_or s (at + i) 0 ≡ get_or w i 0 → ⊥) → bad ≡ eat w (drop at s)
  eating_differs h = sym (step ∙ rw (ne_eqb _ _ (λ q. h (sym q))) refl)

pub eating_whole : (w s : List ℕ) (at i : ℕ) (c : Cursor)
    → Eating w s at i → length w ≤ i → c.at ≡ at + i → At s tt c (eat w (drop at s))
unfolding eat
eating_whole w s at i c e h p =
    record { inside = omega arith; is = sym (e.left ∙ rw (drop_of_length-le w h, p) refl) }

-- ---- one byte
module _ (b : ℕ) (s : List ℕ) (at : ℕ) where
  pub byte_past : length s ≤ at → bad ≡ eat (b ∷ []) (drop at s)
  unfolding eat
  byte_past h = rw (drop_of_length-le s h) refl

  pub byte_differs : at < length s → (get_or s at 0 ≡ b → ⊥) → bad ≡ eat (b ∷ []) (drop at s)
  unfolding eat
  byte_differs h k = rw (drop-cons s at 0 h, ne_eqb _ _ (λ q. k (sym q))) refl

  pub byte_same : at < length s → get_or s at 0 ≡ b → (c : Cursor) → c.at ≡ at + 1 → At s tt c (eat (b ∷ []) (drop at s))
  unfolding eat
  byte_same h k c p =
      record { inside = omega arith; is = rw (drop-cons s at 0 h, eq-eqb _ _ (sym k), p, add-one) refl }

pub missing_byte : (b d : ℕ) (s : List ℕ) → bad ≡ eat (d ∷ []) (b ∷ s) → b ≡ d → ⊥
missing_byte b d s h e = bad_found {s = s} (h ∙ ap (λ (x : ℕ). eat (d ∷ []) (x ∷ s)) e ∙ eat_own (d ∷ []) s)
