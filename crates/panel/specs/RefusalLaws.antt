-- From the question that was answered "no" to the lines of a refusal: which they can be, by its number and its text, and that number
-- and line tell the text. Assumes nothing.
use Rattle.std.specs.Prelude.{refl, ◌≡◌, Bool, true, false, ◌&&◌, ◌||◌, List, [], ◌∷◌, ℕ, suc, ◌+◌, ◌≤◌, ◌<◌, eqb, leb, length}
use Rattle.std.proofs.Common.{sym, subst, arith}
use Rattle.std.proofs.Math.Option.{Option, some, none}
use Rattle.bits.specs.Logic.{pick}
use Rattle.limits.specs.Limits.{max_pla}
use Rattle.text.specs.Line.{lines}
use Rattle.names.specs.Name.{Name}
use Rattle.sheet.specs.Lines.{read_bound, read_limit}
use Rattle.sheet.specs.Examine.{within}
use Rattle.cubes.specs.Cube.{Cube}
use Rattle.platext.specs.Lines.{inputs_line, outputs_line, input_names_line, output_names_line, first_cube}
use Rattle.platext.specs.Text.{Pla, pla, read_pla}
use Rattle.platext.specs.TextLaws.{pla_lines_counted}
use Rattle.platext.specs.BadLineLaws.{bad_line_inside, line_zero_size}
use Rattle.panel.specs.Questions.{zeros_and_ones, other_mark}
use Rattle.panel.specs.Board.{Board, misspelled, board, bound_line, limit_line, after_limit, after_bound, read_board}
use Rattle.panel.specs.Panel as refusals
use Rattle.panel.specs.Panel.{PanelText, pla_text, second_text, PanelRefuses, refused_text, PanelRefusal}

-- how number and line tell the text: the laws below take it as a premise, and each law about refusals shows it itself
abbrev pub TellsText : Type 0
TellsText = (q l : ℕ) → refused_text q l ≡ pick (leb 12 q || (eqb q 4 && leb input_names_line l)) pla_text second_text

-- ---- question 14
other_mark_line : (n : ℕ) (cs : List Cube) (l : ℕ) → other_mark n cs ≡ some l → (n ≤ l) × (l < n + length cs)
unfolding other_mark
other_mark_line n [] l e =
    let z : ◌≡◌ {A = ℕ} 0 1 = cc in
    omega arith
other_mark_line n (c ∷ cs) l e = go (zeros_and_ones c.marks) (other_mark_line (suc n) cs l) e
  where
    go : (b : Bool)
        → (other_mark (suc n) cs ≡ some l → (suc n ≤ l) × (l < suc n + length cs))
        → pick b (other_mark (suc n) cs) (some n) ≡ some l
        → (n ≤ l) × (l < n + suc (length cs))
    go true h f =
        let (low, high) = h f in
        omega arith
    go false h f =
        let s : n ≡ l = cc in
        omega arith

mark_line : (p : List ℕ) (x : Pla) (l : ℕ) → read_pla p ≡ pla x → other_mark first_cube x.cubes ≡ some l → (first_cube ≤ l) × (l < length (lines p))
mark_line p x l r e =
    let (low, high) = other_mark_line first_cube x.cubes l e in
    omega (arith, pla_lines_counted p x r)

-- ---- question 2
-- a misspelled line is one of three, and at most one past the last
abbrev BoardLine : List (List ℕ) → Board → Type 0
BoardLine ls (misspelled l) = (1 ≤ l) × (l ≤ 3) × (l ≤ suc (length ls))
BoardLine ls (board bs n) = Unit {0}

after_limit_line : (bs : List Name) (x : Option ℕ) (k m : List ℕ) (ls : List (List ℕ)) → BoardLine (k ∷ m ∷ ls) (after_limit bs x ls)
after_limit_line bs none k m ls = omega arith
after_limit_line bs (some n) k m [] = tt
after_limit_line bs (some n) k m (l ∷ ls) = omega arith

after_bound_line : (x : Option (List Name)) (k : List ℕ) (ls : List (List ℕ)) → BoardLine (k ∷ ls) (after_bound x ls)
after_bound_line none k ls = omega arith
after_bound_line (some bs) k [] = omega arith
after_bound_line (some bs) k (l ∷ ls) = after_limit_line bs (read_limit l) k l ls

read_board_line : (ls : List (List ℕ)) → BoardLine ls (read_board ls)
unfolding read_board
read_board_line [] = omega arith
read_board_line (l ∷ ls) = after_bound_line (read_bound l) l ls

-- ---- every refusal
texts_differ : pla_text ≡ second_text → ⊥
texts_differ e =
    let z : ◌≡◌ {A = ℕ} 0 1 = cc in
    omega arith

-- the numbers in the PLA text, 4 and 12 to 14, and the lines of 4 and 13
record PlaLine (q l : ℕ) : Type 0 where
  pub low : 4 ≤ q
  pub high : q ≤ 14
  pub none_between : 5 ≤ q → 12 ≤ q
  pub names : q ≡ 4 → (input_names_line ≤ l) × (l ≤ output_names_line)
  pub counts : q ≡ 13 → (inputs_line ≤ l) × (l ≤ outputs_line)

-- the numbers in the second text, 1 to 5, and the lines of 1 and of 3 to 5
record SecondLine (q l : ℕ) : Type 0 where
  pub low : 1 ≤ q
  pub high : q ≤ 5
  pub whole : q ≡ 1 → l ≡ 0
  pub further : 3 ≤ q → (bound_line ≤ l) × (l ≤ limit_line)
  pub bound : 4 ≤ q → l ≡ bound_line

module _ (p b : List ℕ) where
  pla_refusal : (q l : ℕ)
      → PanelRefuses p b pla_text q l
      → refused_text q l ≡ pla_text
      → PlaLine q l
      → (q ≡ 12 → (l ≤ suc (length (lines p))) × (l ≡ 0 → within 1 max_pla (length p) ≡ false))
      → (q ≡ 14 → (first_cube ≤ l) × (l < length (lines p)))
      → PanelRefusal p b q l
  pla_refusal q l r t h spelling mark =
      record {
        text = pla_text;
        because = r;
        told = t;
        at_least_one = omega arith;
        at_most_fourteen = h.high;
        none_between = λ e. h.none_between (omega arith);
        spelling_line = λ e. (spelling e).0;
        size_alone = λ e. (spelling e).1;
        count_line = h.counts;
        cube_line = mark;
        whole_text = λ e. absurd (omega arith);
        board_line = λ e. absurd (omega arith);
        names_line_lem = λ e _. h.names e;
        second_line = λ _ _ e. absurd (texts_differ e);
        bound_kind = λ _ _ e. absurd (texts_differ e);
      }

  second_refusal : (q l : ℕ)
      → PanelRefuses p b second_text q l
      → refused_text q l ≡ second_text
      → SecondLine q l
      → (q ≡ 2 → (1 ≤ l) × (l ≤ 3) × (l ≤ suc (length (lines b))))
      → PanelRefusal p b q l
  second_refusal q l r t h spelling =
      record {
        text = second_text;
        because = r;
        told = t;
        at_least_one = h.low;
        at_most_fourteen = omega arith;
        none_between = λ e. omega arith;
        spelling_line = λ e. absurd (omega arith);
        size_alone = λ e. absurd (omega arith);
        count_line = λ e. absurd (omega arith);
        cube_line = λ e. absurd (omega arith);
        whole_text = h.whole;
        board_line = spelling;
        names_line_lem = λ _ e. absurd (texts_differ (sym e));
        second_line = λ e _ _. h.further e;
        bound_kind = λ e _ _. h.bound e;
      }

  -- the question is given twice, once to be taken apart
  by_question_by : TellsText → (t : PanelText) (q l : ℕ) → PanelRefuses p b t q l → PanelRefuses p b t q l → PanelRefusal p b q l
  by_question_by a t q l (refusals.by_spelling m e) r =
      pla_refusal 12 m r (a 12 m) (search arith) (λ _. (bad_line_inside p m e, line_zero_size p m e)) (search arith)
  by_question_by a t q l (refusals.by_inputs_count x e h) r = pla_refusal 13 inputs_line r (a 13 inputs_line) (search arith) (λ n. absurd (omega arith)) (search arith)
  by_question_by a t q l (refusals.by_outputs_count x e g h) r = pla_refusal 13 outputs_line r (a 13 outputs_line) (search arith) (λ n. absurd (omega arith)) (search arith)
  by_question_by a t q l (refusals.by_mark x m e g h i) r = pla_refusal 14 m r (a 14 m) (search arith) (λ n. absurd (omega arith)) (λ _. mark_line p x m e i)
  by_question_by a t q l (refusals.by_size x h e) r = second_refusal 1 0 r (a 1 0) (search arith) (search arith)
  by_question_by a t q l (refusals.by_board x m h e g) r =
      second_refusal 2 m r (a 2 m) (search arith) (λ _. subst (BoardLine (lines b)) g (read_board_line (lines b)))
  by_question_by a t q l (refusals.by_input_again x bs n h e) r =
      pla_refusal 4 input_names_line r (a 4 input_names_line) (search arith) (λ n. absurd (omega arith)) (search arith)
  by_question_by a t q l (refusals.by_output_again x bs n h e g) r =
      pla_refusal 4 output_names_line r (a 4 output_names_line) (search arith) (λ n. absurd (omega arith)) (search arith)
  by_question_by a t q l (refusals.by_bound_count x bs n h e) r = second_refusal 3 bound_line r (a 3 bound_line) (search arith) (search arith)
  by_question_by a t q l (refusals.by_bound_again x bs n h e g) r = second_refusal 4 bound_line r (a 4 bound_line) (search arith) (search arith)
  by_question_by a t q l (refusals.by_bound_unknown x bs n h e g i) r = second_refusal 5 bound_line r (a 5 bound_line) (search arith) (search arith)
  by_question_by a t q l (refusals.by_limit x bs n h e g i j) r = second_refusal 3 limit_line r (a 3 limit_line) (search arith) (search arith)

  pub refusal_right_by : TellsText → (t : PanelText) (q l : ℕ) → PanelRefuses p b t q l → PanelRefusal p b q l
  refusal_right_by a t q l r = by_question_by a t q l r r

  by_question : (t : PanelText) (q l : ℕ) → PanelRefuses p b t q l → PanelRefuses p b t q l → PanelRefusal p b q l
  by_question = by_question_by (λ m k. refl)

  pub refusal_right : (t : PanelText) (q l : ℕ) → PanelRefuses p b t q l → PanelRefusal p b q l
  refusal_right = refusal_right_by (λ m k. refl)
