-- A text whose last byte is 0x0A is its lines, each ended by 0x0A, and lines with no 0x0A in them are those of the text that
-- they make; the text of lines after lines. Assumes nothing.
use Rattle.std.specs.Prelude.{◌≡◌, refl, Bool, true, false, List, [], ◌∷◌, ◌++◌, ℕ, ◌+◌, ◌<◌, eqb, length}
use Rattle.std.proofs.Common.{sym, ap, ap₂, ◌∙◌, append_assoc, arith, length-append, eqb-true}
use Rattle.bits.specs.Logic.{pick}
use Rattle.bits.specs.LogicLaws.{true_false, and_left, and_right}
use Rattle.text.specs.Bytes.{newline}
use Rattle.text.specs.Line.{lines, onto, ended_lines, ends_line}
use Rattle.text.specs.LineLaws.{lines-empty, lines_broken}
use Rattle.text.specs.Unbroken.{unbroken, all_unbroken}

pub lines_of_ended : (ls : List (List ℕ)) → all_unbroken ls ≡ true → lines (ended_lines ls) ≡ ls
unfolding ended_lines all_unbroken
lines_of_ended [] h = lines-empty
lines_of_ended (l ∷ ls) h =
    lines_broken l (ended_lines ls) (and_left (unbroken l) (all_unbroken ls) h)
    ∙ ap (λ (ms : List (List ℕ)). l ∷ ms) (lines_of_ended ls (and_right (unbroken l) (all_unbroken ls) h))

-- ---- lines after lines
pub ended_more : (l : List ℕ) (ls : List (List ℕ)) → ended_lines (l ∷ ls) ≡ (l ++ (newline ∷ [])) ++ ended_lines ls
unfolding ended_lines
ended_more l ls = sym (append_assoc l (newline ∷ []) (ended_lines ls))

pub ended-append : (ls ms : List (List ℕ)) → ended_lines (ls ++ ms) ≡ ended_lines ls ++ ended_lines ms
unfolding ended_lines
ended-append [] ms = refl
ended-append (l ∷ ls) ms =
    ap (λ (t : List ℕ). l ++ (newline ∷ t)) (ended-append ls ms) ∙ sym (append_assoc l (newline ∷ ended_lines ls) (ended_lines ms))

pub ended_more_length : (l : List ℕ) (ls : List (List ℕ)) → length (ended_lines (l ∷ ls)) ≡ length l + 1 + length (ended_lines ls)
unfolding ended_lines
ended_more_length l ls = omega (arith, length-append l (newline ∷ ended_lines ls))

pub ended_append_length : (ls ms : List (List ℕ))
    → length (ended_lines (ls ++ ms)) ≡ length (ended_lines ls) + length (ended_lines ms)
ended_append_length ls ms = ap length (ended-append ls ms) ∙ length-append (ended_lines ls) (ended_lines ms)

-- ---- the last byte
ends-append : (l : List ℕ) (b : ℕ) (s : List ℕ) → ends_line (l ++ (b ∷ s)) ≡ ends_line (b ∷ s)
unfolding ends_line
ends-append [] b s = refl
ends-append (a ∷ []) b s = refl
ends-append (a ∷ c ∷ l) b s = ends-append (c ∷ l) b s

ends_after : (ls : List (List ℕ)) → ends_line (newline ∷ ended_lines ls) ≡ true
unfolding ended_lines ends_line
ends_after [] = refl
ends_after (l ∷ ls) = ends-append (newline ∷ l) newline (ended_lines ls) ∙ ends_after ls

pub ended-ends : (l : List ℕ) (ls : List (List ℕ)) → ends_line (ended_lines (l ∷ ls)) ≡ true
unfolding ended_lines
ended-ends l ls = ends-append l newline (ended_lines ls) ∙ ends_after ls

pub ended_some : (l : List ℕ) (ls : List (List ℕ)) → 0 < length (ended_lines (l ∷ ls))
ended_some l ls = omega (arith, ended_more_length l ls)

-- ---- a text is its lines
onto-ended : (b c : ℕ) (s : List ℕ) (ls : List (List ℕ)) → c ∷ s ≡ ended_lines ls → b ∷ c ∷ s ≡ ended_lines (onto b ls)
unfolding ended_lines
onto-ended b c s [] e =
    let z : ◌≡◌ {A = ℕ} 0 1 = cc in
    absurd (omega arith)
onto-ended b c s (l ∷ ls) e = ap (λ (x : List ℕ). b ∷ x) e

pub ended_of_lines : (t : List ℕ) → ends_line t ≡ true → t ≡ ended_lines (lines t)
unfolding lines ended_lines ends_line
ended_of_lines [] h = absurd (true_false (sym h))
ended_of_lines (b ∷ []) h = rw h (ap (λ (x : ℕ). x ∷ []) (eqb-true b newline h))
ended_of_lines (b ∷ c ∷ s) h = go (eqb b newline) refl (ended_of_lines (c ∷ s) h)
  where
    go : (x : Bool)
        → eqb b newline ≡ x
        → c ∷ s ≡ ended_lines (lines (c ∷ s))
        → b ∷ c ∷ s ≡ ended_lines (pick x ([] ∷ lines (c ∷ s)) (onto b (lines (c ∷ s))))
    go true q e = ap₂ (λ (x : ℕ) (l : List ℕ). x ∷ l) (eqb-true b newline q) e
    go false q e = onto-ended b c s (lines (c ∷ s)) e
