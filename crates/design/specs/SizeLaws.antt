-- Question 1 by the bytes: all but the last are plain, and the last is 0x0A. Assumes nothing.
use Rattle.std.specs.Prelude.{◌≡◌, refl, Bool, true, false, ◌&&◌, List, [], ◌∷◌, ◌++◌, ℕ, suc, ◌+◌, ◌-◌, ◌≤◌, ◌<◌, eqb, length, get_or, drop}
use Rattle.std.proofs.Common.{sym, ap, ◌∙◌, arith, add-one, drop_of_length-le, drop-cons, le-leb, ne_eqb, eqb-true}
use Rattle.std.specs.List.{list_all, IsLastAndRest}
use Rattle.std.proofs.lemmas.Bool.{lt-leb}
use Rattle.bits.specs.LogicLaws.{true_false, and_right, and_true, and_false}
use Rattle.limits.specs.Limits.{max_sheet}
use Rattle.text.specs.Bytes.{newline}
use Rattle.sheet.specs.Examine.{sized, plain, plain_lines, within}

-- ---- one byte
pub plain-newline : (b : ℕ) → b ≡ newline → true ≡ plain b
unfolding plain
plain-newline b e = rw e refl

pub plain_inside : (b : ℕ) → 0x20 ≤ b → b < 0x7F → true ≡ plain b
unfolding plain
plain_inside b l h = rw (le-leb 0x20 b l, le-leb b 0x7E (omega arith)) refl

pub plain_below : (b : ℕ) → b < 0x20 → (b ≡ newline → ⊥) → false ≡ plain b
unfolding plain
plain_below b l n = rw (lt-leb 0x20 b l, ne_eqb b newline n) refl

pub plain_above : (b : ℕ) → 0x7F ≤ b → (b ≡ newline → ⊥) → false ≡ plain b
unfolding plain
plain_above b l n = rw (le-leb 0x20 b (omega arith), lt-leb b 0x7E (omega arith), ne_eqb b newline n) refl

-- ---- the size
pub sized-empty : (s : List ℕ) → length s < 1 → false ≡ sized s
unfolding sized
sized-empty s h = rw (lt-leb 1 (length s) h) refl

pub sized_long : (s : List ℕ) → max_sheet < length s → false ≡ sized s
unfolding sized
sized_long s h = rw (le-leb 1 (length s) (omega arith), lt-leb (length s) max_sheet h) refl

pub sized-rest : (s : List ℕ) → 1 ≤ length s → length s ≤ max_sheet → sized s ≡ plain_lines s
unfolding sized
sized-rest s h l = rw (le-leb 1 (length s) h, le-leb (length s) max_sheet l) refl

-- ---- the last byte and those before it
and_assoc : (a b c : Bool) → a && (b && c) ≡ (a && b) && c
and_assoc true b c = refl
and_assoc false b c = refl

by_last : (x : ℕ) (rest : List ℕ) → plain_lines (rest ++ (x ∷ [])) ≡ list_all plain rest && eqb x newline
unfolding plain_lines
by_last x [] = refl
by_last x (b ∷ []) = and_assoc (plain b) true (eqb x newline)
by_last x (b ∷ c ∷ rest) =
    ap (λ (t : Bool). plain b && t) (by_last x (c ∷ rest)) ∙ and_assoc (plain b) (list_all plain (c ∷ rest)) (eqb x newline)

module _ (s : List ℕ) (x : ℕ) (rest : List ℕ) (p : IsLastAndRest s x rest) (few : length s ≤ max_sheet) where
  by_parts : sized s ≡ list_all plain rest && eqb x newline
  by_parts = sized-rest s (omega (arith, p.1)) few ∙ ap plain_lines p.0 ∙ by_last x rest

  pub sized-ended : eqb x newline ≡ true → list_all plain rest ≡ sized s
  sized-ended e = sym (by_parts ∙ ap (λ (t : Bool). list_all plain rest && t) e ∙ and_true (list_all plain rest))

  pub sized-unended : eqb x newline ≡ false → false ≡ sized s
  sized-unended e = sym (by_parts ∙ ap (λ (t : Bool). list_all plain rest && t) e ∙ and_false (list_all plain rest))

-- ---- byte after byte
two_left : (s : List ℕ) (i : ℕ) → i < length s - 1 → drop i s ≡ get_or s i 0 ∷ get_or s (suc i) 0 ∷ drop (suc (suc i)) s
two_left s i h =
    drop-cons s i 0 (omega arith)
    ∙ ap (λ (t : List ℕ). get_or s i 0 ∷ t) (drop-cons s (suc i) 0 (omega arith))

pub walk_on : (s : List ℕ) (i : ℕ) → i < length s - 1 → true ≡ plain (get_or s i 0) → plain_lines (drop i s) ≡ plain_lines (drop (i + 1) s)
unfolding plain_lines
walk_on s i h p =
    ap plain_lines (two_left s i h)
    ∙ ap (λ (b : Bool). b && plain_lines (get_or s (suc i) 0 ∷ drop (suc (suc i)) s)) (sym p)
    ∙ ap plain_lines (sym (drop-cons s (suc i) 0 (omega arith)) ∙ ap (λ (n : ℕ). drop n s) (sym (add-one i)))

pub walk_stopped : (s : List ℕ) (i : ℕ) → i < length s - 1 → false ≡ plain (get_or s i 0) → false ≡ plain_lines (drop i s)
unfolding plain_lines
walk_stopped s i h p =
    sym
    (ap plain_lines (two_left s i h)
    ∙ ap (λ (b : Bool). b && plain_lines (get_or s (suc i) 0 ∷ drop (suc (suc i)) s)) (sym p))

pub walk_last : (s : List ℕ) (i : ℕ) → 1 ≤ length s → i ≡ length s - 1 → plain_lines (drop i s) ≡ eqb (get_or s i 0) newline
unfolding plain_lines
walk_last s i h e =
    ap plain_lines (drop-cons s i 0 (omega arith) ∙ ap (λ (t : List ℕ). get_or s i 0 ∷ t) (drop_of_length-le s {i = suc i} (omega arith)))

-- ---- the last byte of a text that passes
last-newline : (s : List ℕ) → plain_lines s ≡ true → get_or s (length s - 1) 0 ≡ newline
unfolding plain_lines
last-newline [] e = absurd (true_false (sym e))
last-newline (b ∷ []) e = eqb-true b newline e
last-newline (b ∷ c ∷ s) e =
    let h : suc (suc (length s)) - 1 ≡ suc (suc (length s) - 1) = omega arith in
    ap (λ (n : ℕ). get_or (b ∷ c ∷ s) n 0) h ∙ last-newline (c ∷ s) (and_right (plain b) _ e)

pub sized-last : (s : List ℕ) → sized s ≡ true → get_or s (length s - 1) 0 ≡ newline
unfolding sized
sized-last s e = last-newline s (and_right (within 1 max_sheet (length s)) (plain_lines s) e)
