-- Question 1 and the lines of a text: lines of bytes 0x20 to 0x7E, each ended by 0x0A, make a text of plain bytes whose last is
-- 0x0A, and have no 0x0A in them. Assumes nothing.
use Rattle.std.specs.Prelude.{◌≡◌, refl, Bool, true, false, ◌||◌, List, [], ◌∷◌, ◌++◌, ℕ, eqb}
use Rattle.std.proofs.Common.{sym, ap, ◌∙◌, ne_eqb}
use Rattle.bits.specs.LogicLaws.{true_false, and_left, and_right, and_both}
use Rattle.text.specs.Bytes.{newline}
use Rattle.text.specs.Line.{ended_lines, ends_line}
use Rattle.text.specs.Unbroken.{unbroken, all_unbroken}
use Rattle.text.specs.LineLaws.{unbroken-cons}
use Rattle.sheet.specs.Examine.{within, plain, plain_lines}
use Rattle.sheet.specs.Visible.{visible, all_visible}

-- ---- no 0x0A
visible_no_newline : (b : ℕ) → within 0x20 0x7E b ≡ true → eqb b newline ≡ false
visible_no_newline b h = ne_eqb b newline (λ e. true_false (sym h ∙ ap (within 0x20 0x7E) e))

visible-unbroken : (l : List ℕ) → visible l ≡ true → unbroken l ≡ true
unfolding visible unbroken
visible-unbroken [] h = refl
visible-unbroken (b ∷ l) h =
    unbroken-cons b l
    (visible_no_newline b (and_left (within 0x20 0x7E b) (visible l) h))
    (visible-unbroken l (and_right (within 0x20 0x7E b) (visible l) h))

pub all_visible_unbroken : (ls : List (List ℕ)) → all_visible ls ≡ true → all_unbroken ls ≡ true
unfolding all_visible all_unbroken
all_visible_unbroken [] h = refl
all_visible_unbroken (l ∷ ls) h =
    and_both (unbroken l) (all_unbroken ls)
    (visible-unbroken l (and_left (visible l) (all_visible ls) h))
    (all_visible_unbroken ls (and_right (visible l) (all_visible ls) h))

-- ---- plain bytes, the last 0x0A
visible_plain : (b : ℕ) → within 0x20 0x7E b ≡ true → plain b ≡ true
unfolding plain
visible_plain b h = ap (λ (t : Bool). t || eqb b newline) h

plain-front : (b : ℕ) (s : List ℕ) → plain b ≡ true → plain_lines s ≡ true → plain_lines (b ∷ s) ≡ true
unfolding plain_lines
plain-front b [] h k = absurd (true_false (sym k))
plain-front b (c ∷ s) h k = and_both (plain b) (plain_lines (c ∷ s)) h k

plain_line : (l s : List ℕ) → visible l ≡ true → plain_lines (newline ∷ s) ≡ true → plain_lines (l ++ (newline ∷ s)) ≡ true
unfolding visible
plain_line [] s h k = k
plain_line (b ∷ l) s h k =
    plain-front b (l ++ (newline ∷ s))
    (visible_plain b (and_left (within 0x20 0x7E b) (visible l) h))
    (plain_line l s (and_right (within 0x20 0x7E b) (visible l) h) k)

plain_after : (ls : List (List ℕ)) → all_visible ls ≡ true → plain_lines (newline ∷ ended_lines ls) ≡ true
unfolding all_visible ended_lines plain_lines plain
plain_after [] h = refl
plain_after (l ∷ ls) h =
    plain-front newline (ended_lines (l ∷ ls)) refl
    (plain_line l (ended_lines ls) (and_left (visible l) (all_visible ls) h)
    (plain_after ls (and_right (visible l) (all_visible ls) h)))

pub ended-plain : (l : List ℕ) (ls : List (List ℕ)) → all_visible (l ∷ ls) ≡ true → plain_lines (ended_lines (l ∷ ls)) ≡ true
unfolding all_visible ended_lines
ended-plain l ls h =
    plain_line l (ended_lines ls) (and_left (visible l) (all_visible ls) h) (plain_after ls (and_right (visible l) (all_visible ls) h))

pub plain-ends : (s : List ℕ) → plain_lines s ≡ true → ends_line s ≡ true
unfolding plain_lines ends_line
plain-ends [] h = h
plain-ends (b ∷ []) h = h
plain-ends (b ∷ c ∷ s) h = plain-ends (c ∷ s) (and_right (plain b) (plain_lines (c ∷ s)) h)
