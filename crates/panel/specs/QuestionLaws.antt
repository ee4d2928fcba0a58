-- The other way round: each question that is answered "no" after all before it were answered "yes" refuses the pair, by its number and
-- on its line. Assumes nothing.
use Rattle.std.specs.Prelude.{◌≡◌, List, ℕ, ◌≤◌, ◌<◌, length}
use Rattle.std.proofs.Math.Path.{refl}
use Rattle.std.proofs.Common.{sym, subst, ◌∙◌, arith}
use borrow.Author.Tests.{le-leb, lt-leb}
use Rattle.bits.specs.Logic.{pick}
use Rattle.bits.specs.LogicLaws.{never_both}
use Rattle.limits.specs.Limits.{max_inputs, max_outputs, max_limit}
use Rattle.text.specs.Line.{lines}
use Rattle.names.specs.Name.{Name}
use Rattle.sheet.specs.Examine.{Design, Examined, refused, sized}
use Rattle.platext.specs.Lines.{input_names_line, output_names_line}
use Rattle.platext.specs.Text.{Pla}
use Rattle.panel.specs.Questions.{too_many, examine_text}
use Rattle.panel.specs.Board.{bound_line, limit_line, read_board}
use Rattle.panel.specs.Examine.{ask_names, ask_board, with_board, examine}
use Rattle.panel.specs.Panel as refusals
use Rattle.panel.specs.Panel.{TextPassed, BoardPassed, NamesPassed, PanelText, PanelRefuses}
use Rattle.panel.specs.OnceLaws.{distinct_first}
use Rattle.panel.specs.DesignLaws.{AsksBoard}
use Rattle.panel.specs.WalkLaws.{Noes, names_walk, BoundTaken, bound_questions, board_walk}

module _ (p b : List ℕ) where
  -- ---- what is passed is asked no more
  text_passed : (x : Pla) → TextPassed p x → examine p b ≡ pick (sized b) (with_board (read_board (lines b)) x) (refused 1 0)
  unfolding examine examine_text too_many
  text_passed x h =
      rw (
        h.is_read,
        le-leb (length x.inputs) max_inputs h.inputs_few,
        le-leb (length x.outputs) max_outputs h.outputs_few,
        h.zeros_and_ones,
      )
      refl

  module _ (x : Pla) (bs : List Name) (n : ℕ) where
    board_passed_by : AsksBoard → BoardPassed p b x bs n → examine p b ≡ ask_names x (ask_board bs n)
    board_passed_by a h = text_passed x h.text_passed ∙ rw (h.board-sized, h.board_is_read) (a bs n x)

    -- a property of what is left holds of the answer
    names_passed : (P : Examined → Type 0)
        → NamesPassed p b x bs n
        → ((e : Design) → e.inputs ≡ x.inputs → P (ask_board bs n e))
        → P (ask_names x (ask_board bs n))
    names_passed P h f =
        names_walk P p x (ask_board bs n) h.board_passed.text_passed
        (λ e. absurd (never_both (distinct_first x.inputs x.outputs h.names_once) e))
        (λ _ e. absurd (never_both h.names_once e))
        (λ e w. f e w.same_inputs)

    board_refuses_by : AsksBoard → (q l : ℕ)
        → NamesPassed p b x bs n
        → Noes (λ (y : Examined). y ≡ refused q l) bound_line (bound_questions x.inputs bs)
        → (BoundTaken x.inputs bs → max_limit < n → refused 3 limit_line ≡ refused q l)
        → (BoundTaken x.inputs bs → n ≤ max_limit → ⊥)
        → examine p b ≡ refused q l
    board_refuses_by a q l h f g k =
        let P : Examined → Type 0 = λ y. y ≡ refused q l in
        board_passed_by a h.board_passed
        ∙ names_passed P h
        (λ e i.
        let there : BoundTaken e.inputs bs → BoundTaken x.inputs bs = subst (λ (ns : List Name). BoundTaken ns bs) i in
        board_walk P bs n e
        (subst (λ (ns : List Name). Noes P bound_line (bound_questions ns bs)) (sym i) f)
        (λ c. g (there c))
        (λ c m. absurd (k (there c) m)))

    board_passed : BoardPassed p b x bs n → examine p b ≡ ask_names x (ask_board bs n)
    board_passed = board_passed_by (λ _ _ _. refl)

    board_refuses : (q l : ℕ)
        → NamesPassed p b x bs n
        → Noes (λ (y : Examined). y ≡ refused q l) bound_line (bound_questions x.inputs bs)
        → (BoundTaken x.inputs bs → max_limit < n → refused 3 limit_line ≡ refused q l)
        → (BoundTaken x.inputs bs → n ≤ max_limit → ⊥)
        → examine p b ≡ refused q l
    board_refuses = board_refuses_by (λ _ _ _. refl)

-- ---- every question
pub question_refuses : (p b : List ℕ) (t : PanelText) (q l : ℕ) → PanelRefuses p b t q l → examine p b ≡ refused q l
unfolding examine examine_text too_many
question_refuses p b t q l (refusals.by_spelling m e) = rw e refl
question_refuses p b t q l (refusals.by_inputs_count x e h) = rw (e, lt-leb (length x.inputs) max_inputs h) refl
question_refuses p b t q l (refusals.by_outputs_count x e g h) =
    rw (e, le-leb (length x.inputs) max_inputs g, lt-leb (length x.outputs) max_outputs h) refl
question_refuses p b t q l (refusals.by_mark x m e g h i) =
    rw (e, le-leb (length x.inputs) max_inputs g, le-leb (length x.outputs) max_outputs h, i) refl
question_refuses p b t q l (refusals.by_size x h e) = text_passed p b x h ∙ rw e refl
question_refuses p b t q l (refusals.by_board x m h e g) = text_passed p b x h ∙ rw (e, g) refl
question_refuses p b t q l (refusals.by_input_again x bs n h e) =
    board_passed_by p b x bs n (λ _ _ _. refl) h
    ∙ names_walk (λ (y : Examined). y ≡ refused 4 input_names_line) p x (ask_board bs n) h.text_passed (λ _. refl)
    (λ f _. absurd (never_both f e))
    (λ _ w. absurd (never_both (distinct_first x.inputs x.outputs w.names_once) e))
question_refuses p b t q l (refusals.by_output_again x bs n h e g) =
    board_passed_by p b x bs n (λ _ _ _. refl) h
    ∙ names_walk (λ (y : Examined). y ≡ refused 4 output_names_line) p x (ask_board bs n) h.text_passed (λ f. absurd (never_both e f))
    (λ _ _. refl)
    (λ _ w. absurd (never_both w.names_once g))
question_refuses p b t q l (refusals.by_bound_count x bs n h e) =
    board_refuses_by p b x bs n (λ _ _ _. refl) 3 bound_line h (λ _. refl, λ f. absurd (never_both f e)) (λ c. absurd (never_both c.counted e))
    (λ c. absurd (never_both c.counted e))
question_refuses p b t q l (refusals.by_bound_again x bs n h e g) =
    board_refuses_by p b x bs n (λ _ _ _. refl) 4 bound_line h (λ f. absurd (never_both e f), λ _. (λ _. refl, λ f. absurd (never_both f g)))
    (λ c. absurd (never_both c.once g))
    (λ c. absurd (never_both c.once g))
question_refuses p b t q l (refusals.by_bound_unknown x bs n h e g i) =
    board_refuses_by p b x bs n (λ _ _ _. refl) 5 bound_line h
    (λ f. absurd (never_both e f), λ _. (λ f. absurd (never_both g f), λ _. (λ _. refl, λ _. tt)))
    (λ c. absurd (never_both c.known i))
    (λ c. absurd (never_both c.known i))
question_refuses p b t q l (refusals.by_limit x bs n h e g i j) =
    board_refuses_by p b x bs n (λ _ _ _. refl) 3 limit_line h
    (λ f. absurd (never_both e f), λ _. (λ f. absurd (never_both g f), λ _. (λ f. absurd (never_both i f), λ _. tt)))
    (λ _ _. refl)
    (λ _ m. omega arith)
