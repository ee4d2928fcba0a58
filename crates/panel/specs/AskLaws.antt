-- Questions 3 to 5 on the second text, and questions 3 and 4 on the inputs' names: what each step comes to is what the pair
-- comes to, or a design for the next. Assumes nothing.
use Rattle.std.specs.Prelude.{◌≡◌, Bool, List, ℕ, length, Result, Ok, Err}
use Rattle.std.proofs.Math.Path.{refl, ap}
use Rattle.std.proofs.Common.{sym, ◌∙◌, subst, arith}
use Rattle.std.proofs.Math.Bool.{true, false}
use Rattle.std.proofs.Math.Option.{Option, some}
use Rattle.bits.specs.Logic.{pick}
use Rattle.limits.specs.Limits.{max_inputs}
use Rattle.names.specs.Name.{Name, distinct}
use Rattle.sheet.specs.Lines.{read_bound, read_limit}
use Rattle.sheet.specs.Examine as spec
use Rattle.sheet.specs.Examine.{Design, Step, refused, no_to, next, at_bound, at_limit, ask_line, ask_in, ask_bound, ask_limit, follow, within, nothing, with_inputs}
use Rattle.sheet.specs.Known.{Holds, StepIs}
use Rattle.sheet.specs.declared.Sheet.{Sheet}
use Rattle.sheet.specs.declared.Rows.{Rows}
use Rattle.sheet.specs.declared.Step as code
use Rattle.refusal.specs.Number.{number_of}
use Rattle.refusal.specs.declared.Question.{Question}
use Rattle.refusal.specs.declared.Refusal.{Refusal}
use Rattle.design.specs.Answer.{ExaminedIs}
use Rattle.design.specs.ExamineLaws.{no_at}
use Rattle.platext.specs.Lines.{input_names_line}
use Rattle.platext.specs.Text.{Pla}
use Rattle.platext.specs.Reading.{ReadAs}
use Rattle.platext.specs.Writable.{Writable}
use Rattle.platext.specs.WritableLaws.{cube_fits_at}
use Rattle.platext.specs.declared.PlaText.{PlaText}
use Rattle.panel.specs.Board.{bound_line, limit_line}
use Rattle.panel.specs.Examine.{outputs_of, ask_outputs, ask_names, ask_board}
use Rattle.panel.specs.Held.{Covering, Readable, Held, Ready, AskedIs}

-- ---- one step
pub step_held : (t : Step) (a : code.Step) → StepIs t (Ok a) → Held a.sheet
step_held (no_to q) a h = absurd h
step_held (next p d) a h = record { design = d; holds = h.holds }

step_stopped : (t : Step) (e : Question) (n : ℕ) (k : spec.Place → Design → spec.Examined)
    → StepIs t (Err e)
    → ExaminedIs (follow t n k) (Err (no_at e n))
step_stopped (no_to q) e n k h = record { number = h; line = refl }
step_stopped (next p d) e n k h = absurd h

step_passed : (t : Step) (a : code.Step) (n : ℕ) (k : spec.Place → Design → spec.Examined) (r : Result Sheet Refusal)
    → StepIs t (Ok a)
    → ((p : spec.Place) (d : Design) → Holds d a.sheet → ExaminedIs (k p d) r)
    → ExaminedIs (follow t n k) r
step_passed (no_to q) a n k r h g = absurd h
step_passed (next p d) a n k r h g = g p d h.holds

-- ---- the second text
bound_step : (d : Design) (l : List ℕ) (bs : List Name) (a : Result code.Step Question)
    → read_bound l ≡ some bs
    → StepIs (ask_line at_bound d l) a
    → StepIs (ask_bound d (some bs)) a
unfolding ask_line
bound_step d l bs a e h = subst (λ (x : Option (List Name)). StepIs (ask_bound d x) a) e h

limit_step : (d : Design) (l : List ℕ) (n : ℕ) (a : Result code.Step Question)
    → read_limit l ≡ some n
    → StepIs (ask_line at_limit d l) a
    → StepIs (ask_limit d (some n)) a
unfolding ask_line
limit_step d l n a e h = subst (λ (x : Option ℕ). StepIs (ask_limit d x) a) e h

module _ (d : Design) (bs : List Name) (n : ℕ) (l : List ℕ) (e : read_bound l ≡ some bs) where
  abbrev after-bound : spec.Place → Design → spec.Examined
  after-bound p f = follow (ask_limit f (some n)) limit_line (λ _ g. spec.valid g)

  pub bound-refused : (q : Question) → StepIs (ask_line at_bound d l) (Err q) → ExaminedIs (ask_board bs n d) (Err (no_at q bound_line))
  bound-refused q h = step_stopped (ask_bound d (some bs)) q bound_line after-bound (bound_step d l bs (Err q) e h)

  module _ (a : code.Step) (h : StepIs (ask_line at_bound d l) (Ok a)) (m : List ℕ) (i : read_limit m ≡ some n) where
    pub limit_refused : (q : Question) → ((x : Design) → Holds x a.sheet → StepIs (ask_line at_limit x m) (Err q))
        → ExaminedIs (ask_board bs n d) (Err (no_at q limit_line))
    limit_refused q j =
        step_passed (ask_bound d (some bs)) a bound_line after-bound (Err (no_at q limit_line)) (bound_step d l bs (Ok a) e h)
        (λ p x o. step_stopped (ask_limit x (some n)) q limit_line (λ _ y. spec.valid y) (limit_step x m n (Err q) i (j x o)))

    pub board_passed : (c : code.Step) → ((x : Design) → Holds x a.sheet → StepIs (ask_line at_limit x m) (Ok c))
        → ExaminedIs (ask_board bs n d) (Ok c.sheet)
    board_passed c j =
        step_passed (ask_bound d (some bs)) a bound_line after-bound (Ok c.sheet) (bound_step d l bs (Ok a) e h)
        (λ p x o.
        step_passed (ask_limit x (some n)) c limit_line (λ _ y. spec.valid y) (Ok c.sheet) (limit_step x m n (Ok c) i (j x o))
        (λ q y v. v))

-- ---- the inputs' names
abbrev pub design_of : Pla → Design
design_of x = with_inputs nothing x.inputs

-- the names of the inputs pass
pub record InputsPassed (x : Pla) (k : Sheet) : Type 0 where
  pub holds : Holds (design_of x) k
  pub once : distinct x.inputs ≡ true
  pub is : (onward : Design → spec.Examined) → ask_names x onward ≡ ask_outputs (design_of x) (outputs_of x) onward

module _ (x : Pla) where
  pub inputs_passed : (a : code.Step) → StepIs (ask_in nothing (some x.inputs)) (Ok a) → InputsPassed x a.sheet
  unfolding ask_in
  inputs_passed a h = go (within 1 max_inputs (length x.inputs)) (distinct x.inputs) refl refl h
    where
      go : (b c : Bool)
          → within 1 max_inputs (length x.inputs) ≡ b
          → distinct x.inputs ≡ c
          → StepIs (pick b (pick c (next at_bound (design_of x)) (no_to 4)) (no_to 3)) (Ok a)
          → InputsPassed x a.sheet
      go true true p q w =
          record {
            holds = w.holds;
            once = q;
            is = λ onward.
                ap (λ (b : Bool).
                follow (pick b (pick (distinct x.inputs) (next at_bound (design_of x)) (no_to 4)) (no_to 3)) input_names_line
                (λ _ d. ask_outputs d (outputs_of x) onward)) p
                ∙ ap (λ (b : Bool).
                follow (pick b (next at_bound (design_of x)) (no_to 4)) input_names_line (λ _ d. ask_outputs d (outputs_of x) onward)) q;
          }
      go true false p q w = absurd w
      go false c p q w = absurd w

  pub inputs_refused : (q : Question) → StepIs (ask_in nothing (some x.inputs)) (Err q)
      → AskedIs (ask_names x) (Err (no_at q input_names_line))
  inputs_refused q h = go (ask_in nothing (some x.inputs)) refl h
    where
      go : (t : Step) → ask_in nothing (some x.inputs) ≡ t → StepIs t (Err q) → AskedIs (ask_names x) (Err (no_at q input_names_line))
      go (no_to m) e w = λ onward.
          ap (λ (t : Step). follow t input_names_line (λ _ d. ask_outputs d (outputs_of x) onward)) e
          ∙ ap (λ (i : ℕ). refused i input_names_line) (sym w)
      go (next p d) e w = absurd w

pub names_ready : (s : List ℕ) (x : Pla) (t : PlaText) (k : Sheet) (ts : List Rows)
    → ReadAs s x t
    → Writable x
    → Readable s t
    → InputsPassed x k
    → Covering x ts
    → Ready x (design_of x) k t.outputs.count t.outputs.names ts
names_ready s x t k ts r p h i c =
    record {
      holds = i.holds;
      same_inputs = refl;
      no_outputs = refl;
      outputs_kept = r.outputs_listed.kept;
      outputs_few = omega (arith, h.outputs_few, h.read_as.outputs_listed.kept.counted, r.outputs_listed.kept.counted);
      covering = c;
      inputs_once = i.once;
      literals_counted = λ j l. (cube_fits_at p.cubes_fit j l).literals_counted;
    }

pub names_asked : (x : Pla) (k : Sheet) (r : Result Sheet Refusal) → InputsPassed x k → AskedIs (ask_outputs (design_of x) (outputs_of x)) r → AskedIs (ask_names x) r
names_asked x k (Ok l) i a = record { design = a.design; holds = a.holds; is = λ onward. i.is onward ∙ a.is onward }
names_asked x k (Err e) i a = λ onward. i.is onward ∙ a onward

-- ---- the names and then the second text
pub panel_refused_early : (x : Pla) (bs : List Name) (n : ℕ) (e : Refusal) → AskedIs (ask_names x) (Err e) → ExaminedIs (ask_names x (ask_board bs n)) (Err e)
panel_refused_early x bs n e a =
    subst (λ (y : spec.Examined). ExaminedIs y (Err e)) (sym (a (ask_board bs n))) (record { number = refl; line = refl })

pub panel_asked : (x : Pla) (bs : List Name) (n : ℕ) (k : Sheet) (r : Result Sheet Refusal)
    → AskedIs (ask_names x) (Ok k)
    → ((d : Design) → Holds d k → ExaminedIs (ask_board bs n d) r)
    → ExaminedIs (ask_names x (ask_board bs n)) r
panel_asked x bs n k r h g = subst (λ (y : spec.Examined). ExaminedIs y r) (sym (h.is (ask_board bs n))) (g h.design h.holds)
