-- The examination answers for every text, since it is defined for every one. The answer is a refusal by one of questions 1 to
-- 5, at line 0 to one past the last, or a design that keeps every rule: line after line it is right up to the next place.
-- Assumes nothing.
use Rattle.std.specs.Prelude.{◌≡◌, refl, Bool, true, false, List, [], ◌∷◌, ℕ, suc, ◌+◌, ◌≤◌, length}
use Rattle.std.proofs.Common.{subst, arith}
use Rattle.bits.specs.Logic.{pick}
use Rattle.text.specs.Line.{lines}
use Rattle.sheet.specs.Examine.{Design, Examined, refused, valid, Step, no_to, next, ask_line, ask_lines, at_end, follow, sized, nothing, examine}
use Rattle.sheet.specs.Examine.{Place, at_design, at_in, at_bound, at_limit, at_out, over}
use Rattle.sheet.specs.WellFormed.{LineQuestion, StepRight, ExaminedRight, WellFormed, Reached, RightRefusal}
use Rattle.sheet.specs.LineRightLaws.{line_right}

-- ---- all lines: a refusal by questions 2 to 5 at a line from n to m
record Between (n m q l : ℕ) : Type 0 where
  pub question : LineQuestion q
  pub from : n ≤ l
  pub to : l ≤ m

abbrev AnswerRight : ℕ → ℕ → Examined → Type 0
AnswerRight n m (refused q l) = Between n m q l
AnswerRight n m (valid d) = WellFormed d

wider : (n m : ℕ) (x : Examined) → AnswerRight (suc n) (suc n + m) x → AnswerRight n (n + suc m) x
wider n m (refused q l) h = record { question = h.question; from = omega arith; to = omega arith }
wider n m (valid d) h = h

end_refused : (n : ℕ) → Between n (n + 0) 2 n
end_refused n = record { question = record { low = omega arith; high = omega arith }; from = omega arith; to = omega arith }

at_end_right : (p : Place) (d : Design) (n : ℕ) → Reached p d → AnswerRight n (n + 0) (at_end p d n)
at_end_right at_design d n r = end_refused n
at_end_right at_in d n r = end_refused n
at_end_right at_bound d n r = end_refused n
at_end_right at_limit d n r = end_refused n
at_end_right at_out d n r = end_refused n
at_end_right over d n r = r

follow_right : (t : Step) (n m : ℕ) (k : Place → Design → Examined) → StepRight t
    → ((p : Place) (d : Design) → Reached p d → AnswerRight (suc n) (suc n + m) (k p d))
    → AnswerRight n (n + suc m) (follow t n k)
follow_right (no_to q) n m k r h = record { question = r; from = omega arith; to = omega arith }
follow_right (next p d) n m k r h = wider n m (k p d) (h p d r)

lines_right : (ls : List (List ℕ)) (p : Place) (d : Design) (n : ℕ) → Reached p d → AnswerRight n (n + length ls) (ask_lines p d n ls)
unfolding ask_lines
lines_right [] p d n r = at_end_right p d n r
lines_right (l ∷ ls) p d n r =
    follow_right (ask_line p d l) n (length ls) (λ p' d'. ask_lines p' d' (suc n) ls) (line_right p d l r)
    (λ p' d' r'. lines_right ls p' d' (suc n) r')

-- ---- every text
from-lines : (k m : ℕ) (x : Examined) → k ≡ m → AnswerRight 1 k x → ExaminedRight m x
from-lines k m (refused q l) e h =
    let i = h.question in
    record { at_least_one = omega arith; at_most_five = omega arith; inside = omega arith; whole_text = λ f. omega arith; one_line = λ f. omega arith }
from-lines k m (valid d) e h = h

by_size : (m : ℕ) (b : Bool) (x : Examined) → ExaminedRight m x → ExaminedRight m (pick b x (refused 1 0))
by_size m true x h = h
by_size m false x h =
    record { at_least_one = omega arith; at_most_five = omega arith; inside = omega arith; whole_text = λ e. refl; one_line = λ e. omega arith }

pub examined_right : (s : List ℕ) → ExaminedRight (length (lines s) + 1) (examine s)
unfolding examine
examined_right s =
    let x = ask_lines at_design nothing 1 (lines s) in
    by_size (length (lines s) + 1) (sized s) x
    (from-lines (1 + length (lines s)) (length (lines s) + 1) x (omega arith) (lines_right (lines s) at_design nothing 1 refl))

pub refused_right : (s : List ℕ) (q l : ℕ) → examine s ≡ refused q l → RightRefusal (length (lines s) + 1) q l
refused_right s q l e = subst (ExaminedRight (length (lines s) + 1)) e (examined_right s)

pub valid_well_formed : (s : List ℕ) (d : Design) → examine s ≡ valid d → WellFormed d
valid_well_formed s d e = subst (ExaminedRight (length (lines s) + 1)) e (examined_right s)
