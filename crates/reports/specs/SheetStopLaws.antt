-- A refusal of a design sheet on a line that it has: the examination passed the lines before it, and stopped at this one.
-- Assumes nothing.
use Rattle.std.specs.Prelude.{◌≡◌, refl, Bool, true, false, List, [], ◌∷◌, ℕ, suc, ◌+◌, ◌≤◌, ◌<◌, length}
use Rattle.std.proofs.Common.{sym, ap, ◌∙◌, arith}
use Rattle.bits.specs.Logic.{pick}
use Rattle.text.specs.Line.{lines}
use Rattle.sheet.specs.Examine.{Design, refused, Place, at_design, at_in, at_bound, at_limit, at_out, over, Step, no_to, next, nothing}
use Rattle.sheet.specs.Examine.{ask_line, at_end, follow, ask_lines, sized, examine}
use Rattle.sheet.specs.AskedLaws.{refused_valid}
use Rattle.locate.specs.Located.{has_line, part_of}
use Rattle.locate.specs.LineLaws.{has_within}
use Rattle.reports.specs.FoundLaws.{Found, found_here, found-later, found_line, found_text}
use Rattle.reports.specs.Stopped.{then_sheet, pass_sheet, SheetStop}

number_is : {q q' l l' : ℕ} → refused q l ≡ refused q' l' → q ≡ q'
number_is e = cc

line_is : {q q' l l' : ℕ} → refused q l ≡ refused q' l' → l ≡ l'
line_is e = cc

-- line l among the lines ls, the first of which has the number n, is refused by q
abbrev SheetFound : Place → Design → ℕ → List (List ℕ) → ℕ → ℕ → Type 0
SheetFound p d n ls q l = Found pass_sheet next (λ p' d' x _. ask_line p' d' x ≡ no_to q) p d n ls l

-- past the last line no line is left
not_at_end : (p : Place) (d : Design) (n q l : ℕ) → at_end p d n ≡ refused q l → l < n + 0 → ⊥
not_at_end at_design d n q l e h = omega (arith, line_is e)
not_at_end at_in d n q l e h = omega (arith, line_is e)
not_at_end at_bound d n q l e h = omega (arith, line_is e)
not_at_end at_limit d n q l e h = omega (arith, line_is e)
not_at_end at_out d n q l e h = omega (arith, line_is e)
not_at_end over d n q l e h = refused_valid (sym e)

find : (ls : List (List ℕ)) (p : Place) (d : Design) (n q l : ℕ) → ask_lines p d n ls ≡ refused q l → l < n + length ls → SheetFound p d n ls q l
unfolding ask_lines pass_sheet
find [] p d n q l e h = absurd (not_at_end p d n q l e h)
find (x ∷ ls) p d n q l e h = go (ask_line p d x) refl (λ p' d' f. find ls p' d' (suc n) q l f (omega arith)) e
  where
    go : (t : Step)
        → ask_line p d x ≡ t
        → ((p' : Place) (d' : Design) → ask_lines p' d' (suc n) ls ≡ refused q l → SheetFound p' d' (suc n) ls q l)
        → follow t n (λ p' d'. ask_lines p' d' (suc n) ls) ≡ refused q l
        → SheetFound p d n (x ∷ ls) q l
    go (no_to r) s later f = found_here refl (s ∙ ap no_to (number_is f)) (line_is f)
    go (next p' d') s later f = found-later (λ ms. ap (λ (t : Step). then_sheet t (λ a b. pass_sheet a b ms)) s) (later p' d' f)

-- ---- a design sheet
found_stop : (b : Bool) (s : List ℕ) (q l : ℕ) → SheetFound at_design nothing 1 (lines s) q l → SheetStop s q l (part_of b s l)
found_stop b s q l f =
    record {
      before = f.before;
      after = f.after;
      line = found_line s l f b;
      place = f.place;
      known = f.known;
      passed = f.passed;
      refused = ap (ask_line f.place f.known) (found_text s l f) ∙ f.stops;
    }

pub sheet_stop : (b : Bool) (s : List ℕ) (q l : ℕ) → examine s ≡ refused q l → 2 ≤ q → has_line s l ≡ true → SheetStop s q l (part_of b s l)
unfolding examine
sheet_stop b s q l e h i = go (sized s) e
  where
    go : (x : Bool) → pick x (ask_lines at_design nothing 1 (lines s)) (refused 1 0) ≡ refused q l → SheetStop s q l (part_of b s l)
    go true f =
        let j = has_within s l i in
        found_stop b s q l (find (lines s) at_design nothing 1 q l f (omega arith))
    go false f =
        let j = number_is f in
        absurd (omega arith)
