-- The line that question 12 names: line 0 for the size alone, and else one of the text's lines or the one after the last. Shown line
-- after line, in the order in which the text is read. Assumes nothing.
use Rattle.std.specs.Prelude.{◌≡◌, refl, Bool, true, false, not, ◌||◌, List, [], ◌∷◌, ◌++◌, ℕ, suc, ◌+◌, ◌≤◌, eqb, length}
use Rattle.std.proofs.Common.{subst, arith}
use Rattle.std.proofs.Math.Option.{Option, some, none}
use Rattle.bits.specs.Logic.{pick}
use Rattle.limits.specs.Limits.{max_pla}
use Rattle.text.specs.Line.{lines, ends_line, is_last}
use Rattle.sheet.specs.Examine.{within}
use Rattle.cubes.specs.Cube.{Cube}
use Rattle.platext.specs.Lines.{inputs_line, outputs_line, input_names_line, output_names_line, cubes_line, first_cube}
use Rattle.platext.specs.Lines.{inputs_word, outputs_word, input_names_word, output_names_word, cubes_word, read_count, read_named}
use Rattle.platext.specs.Text.{Answer, bad_line, pla, or_bad, next_line, Head, CubeLine, last, one, read_cube_line, nothing_more, at_last, by_kind}
use Rattle.platext.specs.Text.{read_cubes, read_lines, read_pla}

-- ---- a bad line is one of m lines from number n on, or the one after them
abbrev BadFrom : ℕ → ℕ → Answer → Type 0
BadFrom n m (bad_line l) = (n ≤ l) × (l ≤ n + m)
BadFrom n m (pla x) = Unit {0}

one_line_more : (n m : ℕ) (a : Answer) → BadFrom (suc n) m a → BadFrom n (suc m) a
one_line_more n m (bad_line l) h = omega (arith, h.0, h.1)
one_line_more n m (pla x) h = tt

next_line_bad : {A : Type 0} (ended : Bool) (n : ℕ) (read : List ℕ → Option A) (onward : A → List (List ℕ) → Answer)
    → ((a : A) (ls : List (List ℕ)) → BadFrom (suc n) (length ls) (onward a ls))
    → (ls : List (List ℕ)) → BadFrom n (length ls) (next_line ended n read onward ls)
next_line_bad ended n read onward h [] = omega arith
next_line_bad {A} ended n read onward h (l ∷ ls) = go (ended || not (is_last ls)) (read l)
  where
    go : (t : Bool) (o : Option A) → BadFrom n (suc (length ls)) (pick t (or_bad n o (λ a. onward a ls)) (bad_line n))
    go true none = omega arith
    go true (some a) = one_line_more n (length ls) (onward a ls) (h a ls)
    go false o = omega arith

-- ---- the cubes and `.e`
last_bad : (h : Head) (cs : List Cube) (n : ℕ) (ls : List (List ℕ)) → BadFrom n (suc (length ls)) (at_last h cs n ls)
unfolding at_last
last_bad h cs n ls = go (eqb (length cs) h.cubes) ls
  where
    go : (t : Bool) (ms : List (List ℕ))
        → BadFrom n (suc (length ms)) (pick t (nothing_more n (record { inputs = h.inputs; outputs = h.outputs; cubes = cs }) ms) (bad_line n))
    go true [] = tt
    go true (m ∷ ms) = omega arith
    go false ms = omega arith

cubes_bad : (ls : List (List ℕ)) (ended : Bool) (h : Head) (cs : List Cube) (n : ℕ) → BadFrom n (length ls) (read_cubes ended h cs n ls)
unfolding read_cubes
cubes_bad [] ended h cs n = omega arith
cubes_bad (l ∷ ls) ended h cs n =
    go (ended || not (is_last ls)) (read_cube_line (length h.inputs) (length h.outputs) l)
    (λ c. cubes_bad ls ended h (cs ++ (c ∷ [])) (suc n))
  where
    further : Cube → Answer
    further c = read_cubes ended h (cs ++ (c ∷ [])) (suc n) ls

    go : (t : Bool) (k : Option CubeLine)
        → ((c : Cube) → BadFrom (suc n) (length ls) (further c))
        → BadFrom n (suc (length ls)) (pick t (or_bad n k (λ a. by_kind (at_last h cs n ls) further a)) (bad_line n))
    go true none f = omega arith
    go true (some last) f = last_bad h cs n ls
    go true (some (one c)) f = one_line_more n (length ls) (further c) (f c)
    go false k f = omega arith

-- ---- every line
lines_bad : (ended : Bool) (ls : List (List ℕ)) → BadFrom inputs_line (length ls) (read_lines ended ls)
unfolding read_lines
lines_bad ended =
    next_line_bad ended inputs_line (read_count inputs_word 1) _ (λ i.
    next_line_bad ended outputs_line (read_count outputs_word 1) _ (λ o.
    next_line_bad ended input_names_line (read_named input_names_word i) _ (λ ns.
    next_line_bad ended output_names_line (read_named output_names_word o) _ (λ ms.
    next_line_bad ended cubes_line (read_count cubes_word 0) _ (λ p ls.
    cubes_bad ls ended (record { inputs = ns; outputs = ms; cubes = p }) [] first_cube)))))

-- ---- the text
-- what holds of the line that question 12 names in the text t
abbrev BadIn : List ℕ → Answer → Type 0
BadIn t (bad_line l) = (l ≤ suc (length (lines t))) × (l ≡ 0 → within 1 max_pla (length t) ≡ false)
BadIn t (pla x) = Unit {0}

text_bad : (t : List ℕ) → BadIn t (read_pla t)
unfolding read_pla
text_bad t = go (within 1 max_pla (length t)) refl (read_lines (ends_line t) (lines t)) (lines_bad (ends_line t) (lines t))
  where
    go : (b : Bool) → within 1 max_pla (length t) ≡ b → (a : Answer) → BadFrom inputs_line (length (lines t)) a → BadIn t (pick b a (bad_line 0))
    go true e (bad_line l) h = (omega (arith, h.1), λ z. absurd (omega (arith, h.0)))
    go true e (pla x) h = tt
    go false e a h = (omega arith, λ z. e)

pub bad_line_inside : (t : List ℕ) (l : ℕ) → read_pla t ≡ bad_line l → l ≤ suc (length (lines t))
bad_line_inside t l e = (subst (BadIn t) e (text_bad t)).0

pub line_zero_size : (t : List ℕ) (l : ℕ) → read_pla t ≡ bad_line l → l ≡ 0 → within 1 max_pla (length t) ≡ false
line_zero_size t l e = (subst (BadIn t) e (text_bad t)).1
