-- One line by the place that it stands at: at each place, what the code answers is what the line comes to.
-- Assumes nothing.
use Rattle.std.specs.Prelude.{◌≡◌, refl, true, false, List, ℕ, Result, Ok, Err}
use Rattle.text.specs.Bytes.{same}
use Rattle.refusal.specs.declared.Question.{Question}
use Rattle.sheet.specs.Lines.{design_line, end_line, read_in, read_bound, read_limit, read_out}
use Rattle.sheet.specs.Examine.{Design, ask_in, ask_bound, ask_limit, ask_out, ask_end, ask_line}
use Rattle.sheet.specs.Known.{Holds, Fresh, Fits, StepIs, place_of}
use Rattle.sheet.specs.OnwardLaws.{step_to, passed_onward}
use Rattle.sheet.specs.declared.Place.{Place}
use Rattle.sheet.specs.declared.Sheet.{Sheet}
use Rattle.sheet.specs.declared.Step as code

module _ {p : Place} (d : Design) (l : List ℕ) where
  pub line_design : p ≡ Place.Design → same l design_line ≡ true → (k : Sheet) → Holds d k
      → StepIs (ask_line (place_of p) d l) (Ok (step_to Place.In k))
  unfolding ask_line
  line_design e t k h = rw (e, t) (passed_onward h)

  pub line_no_design : p ≡ Place.Design → same l design_line ≡ false → StepIs (ask_line (place_of p) d l) (Err Question.Spelling)
  unfolding ask_line
  line_no_design e t = rw (e, t) refl

  pub line_over : p ≡ Place.Over → StepIs (ask_line (place_of p) d l) (Err Question.Spelling)
  unfolding ask_line
  line_over e = rw e refl

module _ {p : Place} (d : Design) (l : List ℕ) (r : Result code.Step Question) where
  pub line_in : p ≡ Place.In → (Fresh d → StepIs (ask_in d (read_in l)) r) → Fits (place_of p) d
      → StepIs (ask_line (place_of p) d l) r
  unfolding ask_line
  line_in e a f = rw e (a (rw e at f))

  pub line_bound : p ≡ Place.Bound → StepIs (ask_bound d (read_bound l)) r → StepIs (ask_line (place_of p) d l) r
  unfolding ask_line
  line_bound e a = rw e a

  pub line_limit : p ≡ Place.Limit → StepIs (ask_limit d (read_limit l)) r → StepIs (ask_line (place_of p) d l) r
  unfolding ask_line
  line_limit e a = rw e a

  pub line_end : p ≡ Place.Out → same l end_line ≡ true → StepIs (ask_end d) r → StepIs (ask_line (place_of p) d l) r
  unfolding ask_line
  line_end e t a = rw (e, t) a

  pub line_out : p ≡ Place.Out → same l end_line ≡ false → StepIs (ask_out d (read_out l)) r
      → StepIs (ask_line (place_of p) d l) r
  unfolding ask_line
  line_out e t a = rw (e, t) a
