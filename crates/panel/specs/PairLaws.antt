-- The examination of a pair, question by question: 12 to 14 on the PLA text, 1 and 2 on the second, and then the names and the
-- lines of both. Assumes nothing.
use Rattle.std.specs.Prelude.{◌≡◌, refl, Bool, List, ℕ, ◌+◌, ◌≤◌, ◌<◌, length, Option, Some, None, Result, Ok, Err}
use Rattle.std.proofs.Common.{sym, ◌∙◌, subst, arith}
use Rattle.std.proofs.Math.Path.{ap}
use Rattle.std.proofs.Math.Bool.{true, false}
use Rattle.std.proofs.Math.Option as maybe
use Rattle.std.proofs.Math.Option.{some, none}
use Rattle.std.proofs.Math.Dec.{leb}
use borrow.Author.Tests.{le-leb, lt-leb}
use Rattle.bits.specs.Logic.{pick}
use Rattle.limits.specs.Limits.{max_inputs, max_outputs}
use Rattle.platext.specs.TextReadLaws.{pla_print_of_read}
use Rattle.text.specs.Line.{lines}
use Rattle.names.specs.Name.{Name}
use Rattle.sheet.specs.Examine as sheets
use Rattle.sheet.specs.Examine.{refused, sized}
use Rattle.sheet.specs.declared.Sheet.{Sheet}
use Rattle.refusal.specs.Number.{Refuses}
use Rattle.refusal.specs.declared.Question.{Question}
use Rattle.refusal.specs.declared.Refusal.{Refusal}
use Rattle.design.specs.Answer.{ExaminedIs, Examination}
use Rattle.design.specs.ExamineLaws.{no_at}
use Rattle.platext.specs.Lines.{inputs_line, outputs_line, first_cube}
use Rattle.platext.specs.Text.{Pla, Answer, bad_line, pla, read_pla}
use Rattle.platext.specs.Reading.{ReadAs, TextIs}
use Rattle.platext.specs.declared.PlaText.{PlaText}
use Rattle.panel.specs.Questions as text
use Rattle.panel.specs.Questions.{too_many, other_mark, refused_at, further_asked, examine_text}
use Rattle.panel.specs.Board.{Board, misspelled, board, read_board}
use Rattle.panel.specs.Examine.{ask_names, ask_board, with_board, beside_text, examine}
use Rattle.panel.specs.DesignLaws.{well_formed_by}
use Rattle.panel.specs.Held.{OtherIs, Readable, BoardRead, BoardIs}
use Rattle.panel.specs.declared.BoardLines.{BoardLines}

-- ---- what is answered is the answer of an examination
pub examined : (p b : List ℕ) (r : Result Sheet Refusal) → ExaminedIs (examine p b) r → ExaminedIs (examine p b) r × Examination r
examined p b r h = (h, record { found = examine p b; is = h; right = well_formed_by (λ bs n x. refl) p b })

answered : (p b : List ℕ) (y : sheets.Examined) (r : Result Sheet Refusal) → examine p b ≡ y → ExaminedIs y r → ExaminedIs (examine p b) r
answered p b y r e h = subst (λ (z : sheets.Examined). ExaminedIs z r) (sym e) h

-- ---- question 12
-- the text is read
pub record TextRead (p : List ℕ) (t : PlaText) : Type 0 where
  pub text : Pla
  pub is_read : read_pla p ≡ pla text
  pub read_as : ReadAs p text t

by_answer : (p b : List ℕ) (y : Answer) → read_pla p ≡ y → examine p b ≡ beside_text (further_asked y) b
unfolding examine examine_text
by_answer p b y e = ap (λ (z : Answer). beside_text (further_asked z) b) e

module _ (p : List ℕ) where
  pub text_read : (t : PlaText) → TextIs p (read_pla p) (Ok t) → TextRead p t
  text_read t h = go (read_pla p) refl h
    where
      go : (y : Answer) → read_pla p ≡ y → TextIs p y (Ok t) → TextRead p t
      go (bad_line n) e w = absurd w
      go (pla x) e w = record { text = x; is_read = e; read_as = w }

  pub text-refused : (b : List ℕ) (n : ℕ) → read_pla p ≡ bad_line n → ExaminedIs (examine p b) (Err (no_at Question.PlaSpelling n))
  text-refused b n e =
      answered p b (refused 12 n) (Err (no_at Question.PlaSpelling n)) (by_answer p b (bad_line n) e) (record { number = refl; line = refl })

pub text_readable : (p : List ℕ) (t : PlaText) → TextRead p t → t.outputs.count ≤ max_outputs → Readable p t
text_readable p t w h =
    record {
      text = w.text;
      read_as = w.read_as;
      fitting = (pla_print_of_read p w.text w.is_read).writable;
      outputs_few = omega (arith, w.read_as.outputs_listed.kept.counted);
    }

some_none : {n : ℕ} → ◌≡◌ {A = Option ℕ} (Some n) None → ⊥
some_none e =
    let z : ◌≡◌ {A = ℕ} 0 1 = cc in
    omega arith

-- ---- questions 13 and 14
module _ (p : List ℕ) (t : PlaText) (w : TextRead p t) (b : List ℕ) where
  abbrev marked : text.Examined
  marked = refused_at 14 (other_mark first_cube w.text.cubes) (text.passed w.text)

  by_count : (y : maybe.Option ℕ) → too_many w.text ≡ y → examine p b ≡ beside_text (refused_at 13 y marked) b
  by_count y e = by_answer p b (pla w.text) w.is_read ∙ ap (λ (z : maybe.Option ℕ). beside_text (refused_at 13 z marked) b) e

  pub many_inputs : max_inputs < t.inputs.count → ExaminedIs (examine p b) (Err (no_at Question.PlaRanges inputs_line))
  unfolding too_many
  many_inputs l =
      let x = w.text in
      let many : leb (length x.inputs) max_inputs ≡ false
      = lt-leb (length x.inputs) max_inputs (omega (arith, w.read_as.inputs_listed.kept.counted)) in
      answered p b (refused 13 inputs_line) (Err (no_at Question.PlaRanges inputs_line))
      (by_count (some inputs_line)
      (ap (λ (c : Bool). pick c (pick (leb (length x.outputs) max_outputs) none (some outputs_line)) (some inputs_line)) many))
      (record { number = refl; line = refl })

  module _ (few : t.inputs.count ≤ max_inputs) where
    by_outputs : too_many w.text ≡ pick (leb (length w.text.outputs) max_outputs) none (some outputs_line)
    unfolding too_many
    by_outputs =
        let x = w.text in
        let fine : leb (length x.inputs) max_inputs ≡ true
        = le-leb (length x.inputs) max_inputs (omega (arith, w.read_as.inputs_listed.kept.counted)) in
        ap (λ (c : Bool). pick c (pick (leb (length x.outputs) max_outputs) none (some outputs_line)) (some inputs_line)) fine

    pub many_outputs : max_outputs < t.outputs.count → ExaminedIs (examine p b) (Err (no_at Question.PlaRanges outputs_line))
    many_outputs l =
        let x = w.text in
        let many : leb (length x.outputs) max_outputs ≡ false
        = lt-leb (length x.outputs) max_outputs (omega (arith, w.read_as.outputs_listed.kept.counted)) in
        answered p b (refused 13 outputs_line) (Err (no_at Question.PlaRanges outputs_line))
        (by_count (some outputs_line) (by_outputs ∙ ap (λ (c : Bool). pick c none (some outputs_line)) many))
        (record { number = refl; line = refl })

    module _ (least : t.outputs.count ≤ max_outputs) where
      by_mark : (y : maybe.Option ℕ)
          → other_mark first_cube w.text.cubes ≡ y
          → examine p b ≡ beside_text (refused_at 14 y (text.passed w.text)) b
      by_mark y e =
          let x = w.text in
          let fine : leb (length x.outputs) max_outputs ≡ true
          = le-leb (length x.outputs) max_outputs (omega (arith, w.read_as.outputs_listed.kept.counted)) in
          by_count none (by_outputs ∙ ap (λ (c : Bool). pick c none (some outputs_line)) fine)
          ∙ ap (λ (z : maybe.Option ℕ). beside_text (refused_at 14 z (text.passed x)) b) e

      pub other-found : (l : ℕ) → OtherIs (Some l) (other_mark first_cube w.text.cubes)
          → ExaminedIs (examine p b) (Err (no_at Question.PlaMarks l))
      other-found l h = go (other_mark first_cube w.text.cubes) refl h
        where
          go : (y : maybe.Option ℕ) → other_mark first_cube w.text.cubes ≡ y → OtherIs (Some l) y
              → ExaminedIs (examine p b) (Err (no_at Question.PlaMarks l))
          go none e o = absurd (some_none o)
          go (some n) e o =
              let same : l ≡ n = cc in
              answered p b (refused 14 n) (Err (no_at Question.PlaMarks l)) (by_mark (some n) e) (record { number = refl; line = same })

      -- ---- the second text
      module _ (h : OtherIs None (other_mark first_cube w.text.cubes)) where
        passed-text : examine p b ≡ pick (sized b) (with_board (read_board (lines b)) w.text) (refused 1 0)
        passed-text = go (other_mark first_cube w.text.cubes) refl h
          where
            go : (y : maybe.Option ℕ)
                → other_mark first_cube w.text.cubes ≡ y
                → OtherIs None y
                → examine p b ≡ pick (sized b) (with_board (read_board (lines b)) w.text) (refused 1 0)
            go none e o = by_mark none e
            go (some n) e o = absurd (some_none (sym o))

        by_board : (z : Bool) (y : Board)
            → sized b ≡ z
            → read_board (lines b) ≡ y
            → examine p b ≡ pick z (with_board y w.text) (refused 1 0)
        by_board z y d e =
            passed-text
            ∙ ap (λ (k : Bool). pick k (with_board (read_board (lines b)) w.text) (refused 1 0)) d
            ∙ ap (λ (k : Board). pick z (with_board k w.text) (refused 1 0)) e

        pub board-refused : (q : Refusal) → BoardIs b (sized b) (read_board (lines b)) (Err q) → ExaminedIs (examine p b) (Err q)
        board-refused q i = go (sized b) (read_board (lines b)) refl refl i
          where
            go : (z : Bool) (k : Board) → sized b ≡ z → read_board (lines b) ≡ k → BoardIs b z k (Err q) → ExaminedIs (examine p b) (Err q)
            go false k d e v = answered p b (refused 1 0) (Err q) (by_board false k d e) v
            go true (misspelled n) d e v = answered p b (refused 2 n) (Err q) (by_board true (misspelled n) d e) v
            go true (board bs n) d e v = absurd v

        pub panel-answered : (y : BoardLines) → BoardIs b (sized b) (read_board (lines b)) (Ok y) → (r : Result Sheet Refusal)
            → ((bs : List Name) (n : ℕ) → BoardRead b bs n y → ExaminedIs (ask_names w.text (ask_board bs n)) r)
            → ExaminedIs (examine p b) r
        panel-answered y i r g = go (sized b) (read_board (lines b)) refl refl i
          where
            go : (z : Bool) (k : Board) → sized b ≡ z → read_board (lines b) ≡ k → BoardIs b z k (Ok y) → ExaminedIs (examine p b) r
            go false k d e v = absurd v
            go true (misspelled n) d e v = absurd v
            go true (board bs n) d e v = answered p b (ask_names w.text (ask_board bs n)) r (by_board true (board bs n) d e) (g bs n v)

-- where the second text is read, its lines lie in it
pub board_inside : (b : List ℕ) (z : Bool) (k : Board) (y : BoardLines)
    → BoardIs b z k (Ok y)
    → (y.bound + 1 ≤ y.limit) × (y.limit ≤ length b)
board_inside b false k y v = absurd v
board_inside b true (misspelled n) y v = absurd v
board_inside b true (board bs n) y v = (v.ordered, v.inside)
