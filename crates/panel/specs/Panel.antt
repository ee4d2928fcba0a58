-- What a pair's examination answers (clauses 13.7 and 13.8): a panel, where a design and the two texts say the same, or a refusal,
-- with the text that its line is counted in. Assumes nothing.
use Rattle.std.specs.Prelude.{◌≡◌, true, false, ◌&&◌, ◌||◌, List, ◌++◌, map, ℕ, suc, ◌≤◌, ◌<◌, eqb, leb, length}
use Rattle.std.proofs.Math.Option.{some, none}
use Rattle.bits.specs.Logic.{pick}
use Rattle.limits.specs.Limits.{max_inputs, max_outputs, max_bound, max_limit, max_pla}
use Rattle.text.specs.Line.{lines}
use Rattle.names.specs.Name.{Name, distinct, all_among}
use Rattle.names.specs.Spelled.{spelled_by}
use Rattle.sheet.specs.Examine.{Design, sized, within}
use Rattle.platext.specs.Lines.{inputs_line, outputs_line, input_names_line, output_names_line, first_cube}
use Rattle.platext.specs.Text.{Pla, bad_line, pla, read_pla}
use Rattle.panel.specs.Questions.{other_mark}
use Rattle.panel.specs.Board.{misspelled, board, bound_line, limit_line, read_board}
use Rattle.panel.specs.Examine.{outputs_of}

-- ======== what is passed, in the order of the questions
-- 12 to 14: the PLA text p says x
pub record TextPassed (p : List ℕ) (x : Pla) : Type 0 where
  pub is_read : read_pla p ≡ pla x
  pub inputs_few : length x.inputs ≤ max_inputs
  pub outputs_few : length x.outputs ≤ max_outputs
  pub zeros_and_ones : other_mark first_cube x.cubes ≡ none

-- then 1 and 2: the second text b says the bound names bs and the limit n
pub record BoardPassed (p b : List ℕ) (x : Pla) (bs : List Name) (n : ℕ) : Type 0 where
  pub text_passed : TextPassed p x
  pub board-sized : sized b ≡ true
  pub board_is_read : read_board (lines b) ≡ board bs n

-- then 4 on the PLA text: no name of it stands twice
pub record NamesPassed (p b : List ℕ) (x : Pla) (bs : List Name) (n : ℕ) : Type 0 where
  pub board_passed : BoardPassed p b x bs n
  pub names_once : distinct (x.inputs ++ x.outputs) ≡ true

-- ======== a panel: the design d is what the PLA text p and the second text b say
pub record Panel (p b : List ℕ) (d : Design) : Type 0 where
  pub text : Pla
  pub board-bound : List Name
  pub board_limit : ℕ
  pub passed : NamesPassed p b text board-bound board_limit
  pub same_inputs : d.inputs ≡ text.inputs
  pub same-bound : d.bound ≡ map (spelled_by text.inputs) board-bound
  pub same_limit : d.limit ≡ board_limit
  pub same_outputs : d.outputs ≡ outputs_of text

-- ======== a refusal
pub data PanelText : Type 0 where
  pla_text second_text : PanelText

-- the refusals, each with the text of its line, its number and its line: the question that is answered "no" after all questions
-- before it were answered "yes"
pub data PanelRefuses (p b : List ℕ) : PanelText → ℕ → ℕ → Type 0 where
  by_spelling : (l : ℕ) → read_pla p ≡ bad_line l → PanelRefuses p b pla_text 12 l
  by_inputs_count : (x : Pla) → read_pla p ≡ pla x → max_inputs < length x.inputs → PanelRefuses p b pla_text 13 inputs_line
  by_outputs_count : (x : Pla)
      → read_pla p ≡ pla x
      → length x.inputs ≤ max_inputs
      → max_outputs < length x.outputs
      → PanelRefuses p b pla_text 13 outputs_line
  by_mark : (x : Pla) (l : ℕ)
      → read_pla p ≡ pla x
      → length x.inputs ≤ max_inputs
      → length x.outputs ≤ max_outputs
      → other_mark first_cube x.cubes ≡ some l
      → PanelRefuses p b pla_text 14 l
  by_size : (x : Pla) → TextPassed p x → sized b ≡ false → PanelRefuses p b second_text 1 0
  by_board : (x : Pla) (l : ℕ)
      → TextPassed p x
      → sized b ≡ true
      → read_board (lines b) ≡ misspelled l
      → PanelRefuses p b second_text 2 l
  by_input_again : (x : Pla) (bs : List Name) (n : ℕ)
      → BoardPassed p b x bs n
      → distinct x.inputs ≡ false
      → PanelRefuses p b pla_text 4 input_names_line
  by_output_again : (x : Pla) (bs : List Name) (n : ℕ)
      → BoardPassed p b x bs n
      → distinct x.inputs ≡ true
      → distinct (x.inputs ++ x.outputs) ≡ false
      → PanelRefuses p b pla_text 4 output_names_line
  by_bound_count : (x : Pla) (bs : List Name) (n : ℕ)
      → NamesPassed p b x bs n
      → within 1 max_bound (length bs) ≡ false
      → PanelRefuses p b second_text 3 bound_line
  by_bound_again : (x : Pla) (bs : List Name) (n : ℕ)
      → NamesPassed p b x bs n
      → within 1 max_bound (length bs) ≡ true
      → distinct bs ≡ false
      → PanelRefuses p b second_text 4 bound_line
  by_bound_unknown : (x : Pla) (bs : List Name) (n : ℕ)
      → NamesPassed p b x bs n
      → within 1 max_bound (length bs) ≡ true
      → distinct bs ≡ true
      → all_among bs x.inputs ≡ false
      → PanelRefuses p b second_text 5 bound_line
  by_limit : (x : Pla) (bs : List Name) (n : ℕ)
      → NamesPassed p b x bs n
      → within 1 max_bound (length bs) ≡ true
      → distinct bs ≡ true
      → all_among bs x.inputs ≡ true
      → max_limit < n
      → PanelRefuses p b second_text 3 limit_line

-- the text that a refusal is of, by number and line alone: 12 to 14, and 4 from the line of `.ilb` on, are of the PLA text
abbrev pub refused_text : ℕ → ℕ → PanelText
refused_text q l = pick (leb 12 q || (eqb q 4 && leb input_names_line l)) pla_text second_text

-- a refusal of the PLA text p and the second text b by question q on line l
pub record PanelRefusal (p b : List ℕ) (q l : ℕ) : Type 0 where
  -- the text that the line is counted in
  pub text : PanelText
  -- the question of that text that was answered "no"
  pub because : PanelRefuses p b text q l
  -- number and line tell which text it is
  pub told : refused_text q l ≡ text
  -- the number is one of 1 to 5 and 12 to 14
  pub at_least_one : 1 ≤ q
  pub at_most_fourteen : q ≤ 14
  pub none_between : 6 ≤ q → 12 ≤ q
  -- 12: at most one past the last line, and line 0 for the size alone
  pub spelling_line : q ≡ 12 → l ≤ suc (length (lines p))
  pub size_alone : q ≡ 12 → l ≡ 0 → within 1 max_pla (length p) ≡ false
  -- 13: the line of `.i` or of `.o`
  pub count_line : q ≡ 13 → (inputs_line ≤ l) × (l ≤ outputs_line)
  -- 14: a cube's line, before the last one
  pub cube_line : q ≡ 14 → (first_cube ≤ l) × (l < length (lines p))
  -- 1: the whole second text
  pub whole_text : q ≡ 1 → l ≡ 0
  -- 2: one of three lines, and at most one past the last
  pub board_line : q ≡ 2 → (1 ≤ l) × (l ≤ 3) × (l ≤ suc (length (lines b)))
  -- 4 in the PLA text: the line of `.ilb` or of `.ob`
  pub names_line_lem : q ≡ 4 → text ≡ pla_text → (input_names_line ≤ l) × (l ≤ output_names_line)
  -- 3 to 5 in the second text: the `bound` line, and for 3 the `limit` line too
  pub second_line : 3 ≤ q → q ≤ 5 → text ≡ second_text → (bound_line ≤ l) × (l ≤ limit_line)
  pub bound_kind : 4 ≤ q → q ≤ 5 → text ≡ second_text → l ≡ bound_line
