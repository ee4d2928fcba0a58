-- The examination line after line. Assumes nothing.
use Rattle.std.specs.Prelude.{◌≡◌, refl, Bool, true, false, List, ◌∷◌, ℕ, suc, ◌+◌, ◌-◌, ◌≤◌, ◌<◌, length, get_or, drop, take, Result, Ok, Err}
use Rattle.std.proofs.Common.{sym, ◌∙◌, subst, arith, add-one}
use Rattle.std.proofs.Math.Path.{ap}
use Rattle.bits.specs.Logic.{pick}
use Rattle.text.specs.Bytes.{newline}
use Rattle.text.specs.Line.{lines}
use Rattle.text.specs.LineEnd.{LineEnd}
use Rattle.text.specs.LineEndLaws.{line_end_inside}
use Rattle.text.specs.LineCountLaws.{lines_past}
use Rattle.sheet.specs.Examine as spec
use Rattle.sheet.specs.Examine.{Design, Step, no_to, next, ask_line, ask_lines, at_end, sized, nothing, follow, at_design}
use Rattle.sheet.specs.ExaminationLaws.{valid_well_formed}
use Rattle.sheet.specs.FitLaws.{line_fits}
use Rattle.sheet.specs.Known.{Holds, Fits, StepIs, StepFits, place_of}
use Rattle.sheet.specs.declared.Place.{Place}
use Rattle.sheet.specs.declared.Sheet.{Sheet}
use Rattle.sheet.specs.declared.Step as code
use Rattle.refusal.specs.Number.{number_of}
use Rattle.refusal.specs.declared.Question.{Question}
use Rattle.refusal.specs.declared.Refusal.{Refusal}
use Rattle.design.specs.SizeLaws.{sized-last}
use Rattle.design.specs.Answer.{ExaminedIs, RefusedAs, Examination}

-- a "no" to the question e at the line n
abbrev pub no_at : Question → ℕ → Refusal
no_at e n = record { question = e; line = n }

-- ---- after the last line
pub at_place : (p q : Place) (d : Design) (n : ℕ) (e : Result Sheet Refusal) → p ≡ q → ExaminedIs (at_end (place_of q) d n) e
    → ExaminedIs (at_end (place_of p) d n) e
at_place p q d n e t h = subst (λ (x : Place). ExaminedIs (at_end (place_of x) d n) e) (sym t) h

pub at_end_over : (p : Place) (d : Design) (n : ℕ) (k : Sheet) → p ≡ Place.Over → Holds d k → ExaminedIs (at_end (place_of p) d n) (Ok k)
at_end_over p d n k e h = rw e h

pub at_end_early : (p : Place) (d : Design) (n : ℕ) → (p ≡ Place.Over → ⊥)
    → ExaminedIs (at_end (place_of p) d n) (Err (no_at Question.Spelling n))
at_end_early Place.Design d n o = record { number = refl; line = refl }
at_end_early Place.In d n o = record { number = refl; line = refl }
at_end_early Place.Bound d n o = record { number = refl; line = refl }
at_end_early Place.Limit d n o = record { number = refl; line = refl }
at_end_early Place.Out d n o = record { number = refl; line = refl }
at_end_early Place.Over d n o = absurd (o refl)

-- ---- question 1
pub not-sized : (s : List ℕ) (e : Result Sheet Refusal) → false ≡ sized s → RefusedAs 1 0 e → ExaminedIs (spec.examine s) e
unfolding spec.examine
not-sized s e f h = subst (λ (b : Bool). ExaminedIs (pick b (ask_lines at_design nothing 1 (lines s)) (spec.refused 1 0)) e) f h

is_sized : (s : List ℕ) → true ≡ sized s → spec.examine s ≡ ask_lines at_design nothing 1 (lines s)
unfolding spec.examine
is_sized s f = ap (λ (b : Bool). pick b (ask_lines at_design nothing 1 (lines s)) (spec.refused 1 0)) (sym f)

-- ---- the walk over the lines
-- the lines from the place at on are asked as the whole sheet is
pub record Along (s : List ℕ) (p : Place) (k : Sheet) (at n : ℕ) : Type 0 where
  pub known : Design
  pub holds : Holds known k
  pub fitting : Fits (place_of p) known
  pub inside : at ≤ length s
  pub few : n ≤ at + 1
  pub here : spec.examine s ≡ ask_lines (place_of p) known n (lines (drop at s))
  pub last : get_or s (length s - 1) 0 ≡ newline

-- ---- a line: refused there, or on to the next
line_here : (s : List ℕ) (at e : ℕ) → at < length s → get_or s (length s - 1) 0 ≡ newline → LineEnd s at e → lines (drop at s) ≡ take (e - at) (drop at s) ∷ lines (drop (e + 1) s)
line_here s at e h l x = (x.ended (line_end_inside s at e h l x)).1

module _ (s : List ℕ) (p : Place) (k : Sheet) (at n e : ℕ) (w : Along s p k at n) (h : at < length s) (x : LineEnd s at e) where
  asked_here : spec.examine s ≡ follow (ask_line (place_of p) w.known (take (e - at) (drop at s))) n (λ p' d'. ask_lines p' d' (suc n) (lines (drop (e + 1) s)))
  unfolding ask_lines
  asked_here = w.here ∙ ap (ask_lines (place_of p) w.known n) (line_here s at e h w.last x)

  stopped : (q : Question) (t : Step) → ask_line (place_of p) w.known (take (e - at) (drop at s)) ≡ t → StepIs t (Err q)
      → (r : Result Sheet Refusal) → RefusedAs (number_of q) n r → ExaminedIs (spec.examine s) r
  stopped q (no_to m) u f r o =
      subst (λ (y : spec.Examined). ExaminedIs y r)
      (sym (asked_here ∙ ap (λ (z : Step). follow z n (λ p' d'. ask_lines p' d' (suc n) (lines (drop (e + 1) s)))) u))
      (subst (λ (i : ℕ). RefusedAs i n r) f o)
  stopped q (next p' d) u f r o = absurd f

  pub line_refused : (q : Question) → StepIs (ask_line (place_of p) w.known (take (e - at) (drop at s))) (Err q)
      → (r : Result Sheet Refusal) → RefusedAs (number_of q) n r → ExaminedIs (spec.examine s) r
  line_refused q f = stopped q (ask_line (place_of p) w.known (take (e - at) (drop at s))) refl f

  passed : (a : code.Step) (t : Step) → ask_line (place_of p) w.known (take (e - at) (drop at s)) ≡ t → StepFits t → StepIs t (Ok a)
      → Along s a.place a.sheet (e + 1) (n + 1)
  passed a (no_to q) u y f = absurd f
  passed a (next q d) u y f =
      let l = line_end_inside s at e h w.last x in
      let i = w.few in
      let j = x.after-start in
      record {
        known = d;
        holds = f.holds;
        fitting = subst (λ (z : spec.Place). Fits z d) (sym f.placed) y;
        inside = omega arith;
        few = omega arith;
        here =
            asked_here ∙ ap (λ (z : Step). follow z n (λ p' d'. ask_lines p' d' (suc n) (lines (drop (e + 1) s)))) u
            ∙ ap (λ (z : spec.Place). ask_lines z d (suc n) (lines (drop (e + 1) s))) (sym f.placed)
            ∙ ap (λ (i : ℕ). ask_lines (place_of a.place) d i (lines (drop (e + 1) s))) (sym (add-one n));
        last = w.last;
      }

  pub line_passed : (a : code.Step) → StepIs (ask_line (place_of p) w.known (take (e - at) (drop at s))) (Ok a)
      → Along s a.place a.sheet (e + 1) (n + 1)
  line_passed a f =
      passed a (ask_line (place_of p) w.known (take (e - at) (drop at s))) refl
      (line_fits (place_of p) w.known (take (e - at) (drop at s)) w.fitting) f

-- ---- the first line, and after the last
pub along_start : (s : List ℕ) (k : Sheet) → true ≡ sized s → Holds nothing k → Along s Place.Design k 0 1
along_start s k f h =
    record {
      known = nothing;
      holds = h;
      fitting = record { no_bound = refl; no_outputs = refl };
      inside = omega arith;
      few = omega arith;
      here = is_sized s f;
      last = sized-last s (sym f);
    }

pub along_end : (s : List ℕ) (p : Place) (k : Sheet) (at n : ℕ) (r : Result Sheet Refusal) (w : Along s p k at n) → length s ≤ at → ExaminedIs (at_end (place_of p) w.known n) r → ExaminedIs (spec.examine s) r
unfolding ask_lines
along_end s p k at n r w h f =
    subst (λ (y : spec.Examined). ExaminedIs y r) (sym (w.here ∙ ap (ask_lines (place_of p) w.known n) (lines_past s at h))) f

-- ---- what is answered is the answer of an examination
pub examined : (s : List ℕ) (r : Result Sheet Refusal) → ExaminedIs (spec.examine s) r → ExaminedIs (spec.examine s) r × Examination r
examined s r h = (h, record { found = spec.examine s; is = h; right = valid_well_formed s })
