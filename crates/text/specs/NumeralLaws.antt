-- A text is its digits at the front, and then a text that no digit begins; there is one such way to part it.
-- Assumes nothing.
use Rattle.std.specs.Prelude.{◌≡◌, refl, Bool, true, false, List, [], ◌∷◌, ◌++◌, ℕ, ◌≤◌, leb}
use Rattle.std.proofs.Common.{ap, arith, ne_eqb, leb-true, le-leb}
use Rattle.std.proofs.lemmas.Bool.{not-true}
use Rattle.bits.specs.Logic.{pick}
use Rattle.bits.specs.LogicLaws.{and_left, and_right, and_both}
use Rattle.text.specs.Bytes.{newline}
use Rattle.text.specs.Unbroken.{unbroken}
use Rattle.text.specs.LineLaws.{unbroken-cons}
use Rattle.text.specs.Number.{numeral, numerals, after_numerals}
use Rattle.text.specs.Numerals.{all_numerals, stops}

pub numeral-low : (b : ℕ) → numeral b ≡ true → 0x30 ≤ b
unfolding numeral
numeral-low b e = leb-true 0x30 b (and_left (leb 0x30 b) (leb b 0x39) e)

pub numeral_high : (b : ℕ) → numeral b ≡ true → b ≤ 0x39
unfolding numeral
numeral_high b e = leb-true b 0x39 (and_right (leb 0x30 b) (leb b 0x39) e)

pub numeral-between : (b : ℕ) → 0x30 ≤ b → b ≤ 0x39 → numeral b ≡ true
unfolding numeral
numeral-between b l h = rw (le-leb 0x30 b l, le-leb b 0x39 h) refl

pub numerals_split : (s : List ℕ) → s ≡ numerals s ++ after_numerals s
unfolding numerals after_numerals
numerals_split [] = refl
numerals_split (b ∷ s) = go (numeral b) (numerals_split s)
  where
    go : (t : Bool) → s ≡ numerals s ++ after_numerals s → b ∷ s ≡ pick t (b ∷ numerals s) [] ++ pick t (after_numerals s) (b ∷ s)
    go true e = ap (λ (l : List ℕ). b ∷ l) e
    go false e = refl

pub numerals_all : (s : List ℕ) → all_numerals (numerals s) ≡ true
unfolding numerals all_numerals
numerals_all [] = refl
numerals_all (b ∷ s) = go (numeral b) refl (numerals_all s)
  where
    go : (t : Bool) → numeral b ≡ t → all_numerals (numerals s) ≡ true → all_numerals (pick t (b ∷ numerals s) []) ≡ true
    go true e h = rw (e, h) refl
    go false e h = refl

pub after-stops : (s : List ℕ) → stops (after_numerals s) ≡ true
unfolding after_numerals stops
after-stops [] = refl
after-stops (b ∷ s) = go (numeral b) refl (after-stops s)
  where
    go : (t : Bool) → numeral b ≡ t → stops (after_numerals s) ≡ true → stops (pick t (after_numerals s) (b ∷ s)) ≡ true
    go true e h = h
    go false e h = rw e refl

pub numerals_of : (ds t : List ℕ) → all_numerals ds ≡ true → stops t ≡ true → numerals (ds ++ t) ≡ ds
unfolding numerals all_numerals stops
numerals_of [] [] h k = refl
numerals_of [] (b ∷ t) h k = rw (not-true (numeral b) k) refl
numerals_of (d ∷ ds) t h k =
    rw (and_left (numeral d) (all_numerals ds) h, numerals_of ds t (and_right (numeral d) (all_numerals ds) h) k) refl

pub after_of : (ds t : List ℕ) → all_numerals ds ≡ true → stops t ≡ true → after_numerals (ds ++ t) ≡ t
unfolding after_numerals all_numerals stops
after_of [] [] h k = refl
after_of [] (b ∷ t) h k = rw (not-true (numeral b) k) refl
after_of (d ∷ ds) t h k =
    rw (and_left (numeral d) (all_numerals ds) h) (after_of ds t (and_right (numeral d) (all_numerals ds) h) k)

pub numerals-last : (ds : List ℕ) (d : ℕ) → all_numerals ds ≡ true → numeral d ≡ true → all_numerals (ds ++ (d ∷ [])) ≡ true
unfolding all_numerals
numerals-last [] d h e = rw e refl
numerals-last (b ∷ ds) d h e =
    and_both (numeral b) (all_numerals (ds ++ (d ∷ [])))
    (and_left (numeral b) (all_numerals ds) h)
    (numerals-last ds d (and_right (numeral b) (all_numerals ds) h) e)

-- ---- no digit is a 0x0A
pub numerals-unbroken : (ds : List ℕ) → all_numerals ds ≡ true → unbroken ds ≡ true
unfolding all_numerals unbroken
numerals-unbroken [] h = refl
numerals-unbroken (d ∷ ds) h =
    let l = numeral-low d (and_left (numeral d) (all_numerals ds) h) in
    unbroken-cons d ds (ne_eqb d newline (λ e. omega arith)) (numerals-unbroken ds (and_right (numeral d) (all_numerals ds) h))
