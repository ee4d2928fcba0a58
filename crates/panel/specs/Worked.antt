-- Pairs to try, each computed by the definitions: a panel for sheet A (clause 16.1), small panels, and a pair for each "no" in
-- the order of the questions, with the number and the line that it must get. Assumes nothing.
use Rattle.std.specs.Prelude.{◌≡◌, refl, Bool, true, false, ◌&&◌, List, [], ◌∷◌, ◌++◌, map, ℕ, eqb, length}
use Rattle.std.proofs.Common.{ap}
use Prim.Native.String.{String}
use Rattle.bits.specs.Logic.{pick}
use Rattle.limits.specs.Limits.{max_sheet, max_pla}
use Rattle.text.specs.Bytes.{bytes, newline}
use Rattle.text.specs.Line.{lines, ends_line}
use Rattle.names.specs.Name.{Name}
use Rattle.cursor.specs.Opening.{and_gate, or_gate}
use Rattle.formula.specs.Tree.{Formula, input, constant, negation, gate, none}
use Rattle.sheet.specs.Lines.{Output}
use Rattle.sheet.specs.Examine.{Design, Examined, refused, valid, output_names, within, plain_lines, sized}
use Rattle.design.specs.Tabulate.{table_digits}
use Rattle.design.specs.Sheets.{design_a}
use Rattle.cubes.specs.Cube.{Literal, is_zero, is_one, any, Cube}
use Rattle.platext.specs.Text.{Pla, Answer, bad_line, pla, read_lines, read_pla, print_pla}
use Rattle.panel.specs.Questions.{further_asked, examine_text}
use Rattle.panel.specs.Board.{read_board}
use Rattle.panel.specs.Examine.{outputs_of, with_board, beside_text, examine}
use Rattle.panel.specs.Panel.{pla_text, second_text, refused_text}
use Rattle.panel.specs.Computing.{computing}

-- ======== how texts are written here
-- each line ended by 0x0A
abbrev lined : List String → List ℕ
lined [] = []
lined (l ∷ ls) = bytes l ++ (newline ∷ lined ls)

-- ======== sheet A as a panel: eight cubes for f, four for g
abbrev pub pla_a : List ℕ
pla_a =
    lined
    (".i 4"
    ∷ ".o 2"
    ∷ ".ilb a b c d"
    ∷ ".ob f g"
    ∷ ".p 12"
    ∷ "0001 10"
    ∷ "0010 10"
    ∷ "0100 10"
    ∷ "0111 10"
    ∷ "1000 10"
    ∷ "1011 10"
    ∷ "1101 10"
    ∷ "1110 10"
    ∷ "0011 01"
    ∷ "0101 01"
    ∷ "1001 01"
    ∷ "1111 01"
    ∷ ".e"
    ∷ [])

abbrev pub board_a : List ℕ
board_a = lined ("(bound a b c)" ∷ "(limit 2)" ∷ [])

-- what the PLA text says, a cube by its two parts
abbrev literal : ℕ → Literal
literal b = pick (eqb b 0x30) is_zero (pick (eqb b 0x31) is_one any)

abbrev cube : String → String → Cube
cube ls ms = record { literals = map literal (bytes ls); marks = bytes ms }

abbrev text_a : Pla
text_a =
    record {
      inputs = bytes "a" ∷ bytes "b" ∷ bytes "c" ∷ bytes "d" ∷ [];
      outputs = bytes "f" ∷ bytes "g" ∷ [];
      cubes =
          cube "0001" "10"
          ∷ cube "0010" "10"
          ∷ cube "0100" "10"
          ∷ cube "0111" "10"
          ∷ cube "1000" "10"
          ∷ cube "1011" "10"
          ∷ cube "1101" "10"
          ∷ cube "1110" "10"
          ∷ cube "0011" "01"
          ∷ cube "0101" "01"
          ∷ cube "1001" "01"
          ∷ cube "1111" "01"
          ∷ [];
    }

-- the design of the pair: its outputs have the cubes' formulas
abbrev pub panel_a : Design
panel_a =
    record {
      inputs = text_a.inputs;
      bound = bytes "a" ∷ bytes "b" ∷ bytes "c" ∷ [];
      limit = 2;
      outputs = outputs_of text_a;
    }

-- ======== small panels: the inputs a and b, and the output f
-- a PLA text by its lines after `.ob`, and by its cube
abbrev after_names : List String → List ℕ
after_names ls = lined (".i 2" ∷ ".o 1" ∷ ".ilb a b" ∷ ".ob f" ∷ ls)

abbrev one_cube : String → List ℕ
one_cube c = after_names (".p 1" ∷ c ∷ ".e" ∷ [])

-- a PLA text by its inputs and outputs, without cubes
abbrev counted : String → String → String → String → List ℕ
counted i o ns ms = lined (i ∷ o ∷ ns ∷ ms ∷ ".p 0" ∷ ".e" ∷ [])

-- the second text
abbrev board : String → String → List ℕ
board b l = lined (b ∷ l ∷ [])

abbrev bound_a : List ℕ
bound_a = board "(bound a)" "(limit 0)"

-- beside it, a PLA text
abbrev asked : List ℕ → Examined
asked p = examine p bound_a

-- beside a second text, a PLA text that is valid
abbrev asked_beside : List ℕ → Examined
asked_beside b = examine (one_cube "1- 1") b

-- what that text says
abbrev small_text : Pla
small_text = record { inputs = bytes "a" ∷ bytes "b" ∷ []; outputs = bytes "f" ∷ []; cubes = cube "1-" "1" ∷ [] }

-- a design by its names and formulas, a bound, at limit 0
abbrev output : String → Formula → Output
output n f = record { name = bytes n; formula = f }

abbrev design : List Name → List Output → Design
design ns os = record { inputs = ns; bound = bytes "a" ∷ []; limit = 0; outputs = os }

abbrev small : Formula → Design
small f = design (bytes "a" ∷ bytes "b" ∷ []) (output "f" f ∷ [])

abbrev named : String → Formula
named n = input (bytes n)

abbrev zero_of : String → Output
zero_of n = output n (constant false)

-- ======== what must be answered
pub record WorkedPanels : Type 0 where
  -- sheet A's panel: what its text says, that this is printed to it, and that the pair is valid
  pub a_read : read_pla pla_a ≡ pla text_a
  pub a_printed : print_pla text_a ≡ pla_a
  pub a_valid : examine pla_a board_a ≡ valid panel_a
  -- it has the sheet's inputs, bound inputs, limit and output names, and the sheet's values on all 16 rows
  pub a_inputs : panel_a.inputs ≡ design_a.inputs
  pub a_bound : panel_a.bound ≡ design_a.bound
  pub a_limit : panel_a.limit ≡ design_a.limit
  pub a_outputs : output_names panel_a.outputs ≡ output_names design_a.outputs
  pub f_digits : table_digits panel_a 0 ≡ bytes "0110100110010110"
  pub g_digits : table_digits panel_a 1 ≡ bytes "0001010001000001"
  pub f_values : table_digits panel_a 0 ≡ table_digits design_a 0
  pub g_values : table_digits panel_a 1 ≡ table_digits design_a 1
  -- `-` covers both values
  pub either_value : asked (one_cube "1- 1") ≡ valid (small (named "a"))
  pub either_digits : table_digits (small (named "a")) 0 ≡ bytes "0011"
  pub every-row : asked (one_cube "-- 1") ≡ valid (small (constant true))
  pub every-digit : table_digits (small (constant true)) 0 ≡ bytes "1111"
  -- an output is the disjunction of its cubes
  pub two_cubes : asked (after_names (".p 2" ∷ "10 1" ∷ "-1 1" ∷ ".e" ∷ []))
      ≡ valid (small (gate or_gate (gate and_gate (named "a") (negation (named "b")) none) (named "b") none))
  -- without a cube, or without a 1 in it, the output is 0 on every row
  pub no_cubes : asked (after_names (".p 0" ∷ ".e" ∷ [])) ≡ valid (small (constant false))
  pub no_ones : asked (one_cube "11 0") ≡ valid (small (constant false))
  pub zero_digits : table_digits (small (constant false)) 0 ≡ bytes "0000"
  -- as many inputs and outputs as a sheet allows
  pub ten_inputs : asked (counted ".i 10" ".o 1" ".ilb a b c d e g h i j k" ".ob f")
      ≡ valid (design (map (λ (c : ℕ). c ∷ []) (bytes "abcdeghijk")) (zero_of "f" ∷ []))
  pub four_outputs : asked (counted ".i 1" ".o 4" ".ilb a" ".ob f g h i")
      ≡ valid (design (bytes "a" ∷ []) (zero_of "f" ∷ zero_of "g" ∷ zero_of "h" ∷ zero_of "i" ∷ []))
  -- ---- 12: the PLA text
  pub empty_text : asked [] ≡ refused 12 0
  pub both_empty : examine [] [] ≡ refused 12 0
  pub longest_text : (p : List ℕ) → length p ≡ 32768 → read_pla p ≡ read_lines (ends_line p) (lines p)
  pub longer_text : (p b : List ℕ) → length p ≡ 32769 → examine p b ≡ refused 12 0
  pub zero_inputs : asked (counted ".i 0" ".o 1" ".ilb" ".ob f") ≡ refused 12 1
  pub leading_zero : asked (counted ".i 01" ".o 1" ".ilb a" ".ob f") ≡ refused 12 1
  pub comment_line : asked (lined ("# old" ∷ ".i 1" ∷ ".o 1" ∷ ".ilb a" ∷ ".ob f" ∷ ".p 0" ∷ ".e" ∷ [])) ≡ refused 12 1
  pub zero_outputs : asked (counted ".i 1" ".o 0" ".ilb a" ".ob") ≡ refused 12 2
  pub names_missing : asked (lined (".i 1" ∷ ".o 1" ∷ ".ob f" ∷ ".p 0" ∷ ".e" ∷ [])) ≡ refused 12 3
  pub name_too_few : asked (counted ".i 2" ".o 1" ".ilb a" ".ob f") ≡ refused 12 3
  pub name_too_many : asked (counted ".i 1" ".o 1" ".ilb a b" ".ob f") ≡ refused 12 3
  pub no_name : asked (counted ".i 1" ".o 1" ".ilb and" ".ob f") ≡ refused 12 3
  pub two_spaces : asked (counted ".i 1" ".o 1" ".ilb  a" ".ob f") ≡ refused 12 3
  pub five_digits : asked (after_names (".p 99999" ∷ ".e" ∷ [])) ≡ refused 12 6
  pub six_digits : asked (after_names (".p 100000" ∷ ".e" ∷ [])) ≡ refused 12 5
  pub short_cube : asked (one_cube "1 1") ≡ refused 12 6
  pub long_cube : asked (one_cube "1-- 1") ≡ refused 12 6
  pub long_output_part : asked (one_cube "1- 11") ≡ refused 12 6
  pub other-literal : asked (one_cube "1~ 1") ≡ refused 12 6
  pub p_too_many : asked (after_names (".p 2" ∷ "1- 1" ∷ ".e" ∷ [])) ≡ refused 12 7
  pub p_too_few : asked (after_names (".p 0" ∷ "1- 1" ∷ ".e" ∷ [])) ≡ refused 12 7
  pub end_missing : asked (after_names (".p 1" ∷ "1- 1" ∷ [])) ≡ refused 12 7
  pub end_missing_lines : length (lines (after_names (".p 1" ∷ "1- 1" ∷ []))) ≡ 6
  pub text_after_end : asked (after_names (".p 1" ∷ "1- 1" ∷ ".e" ∷ ".e" ∷ [])) ≡ refused 12 8
  pub last_not_ended : asked (after_names (".p 1" ∷ "1- 1" ∷ []) ++ bytes ".e") ≡ refused 12 7
  -- ---- 13, asked before 14
  pub eleven_inputs : asked (lined (".i 11" ∷ ".o 1" ∷ ".ilb a b c d e g h i j k l" ∷ ".ob f" ∷ ".p 1" ∷ "----------- ~" ∷ ".e" ∷ []))
      ≡ refused 13 1
  pub five_outputs : asked (counted ".i 1" ".o 5" ".ilb a" ".ob f g h i j") ≡ refused 13 2
  -- ---- 14, asked after the whole of 12: an output part is any bytes but 0x0A
  pub tilde : asked (after_names (".p 2" ∷ "10 1" ∷ "-1 ~" ∷ ".e" ∷ [])) ≡ refused 14 7
  pub two : asked (after_names (".p 2" ∷ "10 2" ∷ "-1 ~" ∷ ".e" ∷ [])) ≡ refused 14 6
  pub space_as_mark : asked (one_cube "1-  ") ≡ refused 14 6
  pub zero_byte_as_mark : asked (after_names (".p 1" ∷ []) ++ (bytes "1- " ++ (0x00 ∷ newline ∷ bytes ".e\n"))) ≡ refused 14 6
  pub later_12 : asked (after_names (".p 1" ∷ "1- ~" ∷ [])) ≡ refused 12 7
  pub count_12 : asked (after_names (".p 2" ∷ "1- ~" ∷ ".e" ∷ [])) ≡ refused 12 7
  pub empty_beside_14 : examine (one_cube "1- ~") [] ≡ refused 14 6
  -- ---- 1: the second text
  pub empty-second : asked_beside [] ≡ refused 1 0
  pub longer_second : (b : List ℕ) → length b ≡ 4097 → asked_beside b ≡ refused 1 0
  pub second_not_ended : asked_beside (bytes "(bound a)\n(limit 0)") ≡ refused 1 0
  -- ---- 2, both lines before any 3
  pub bound_misspelled : asked_beside (board "(bound a" "(limit 9)") ≡ refused 2 1
  pub limit_misspelled : asked_beside (board "(bound a b c d e f)" "(limit 01)") ≡ refused 2 2
  pub three_lines : asked_beside (lined ("(bound a)" ∷ "(limit 0)" ∷ "(end)" ∷ [])) ≡ refused 2 3
  pub one_line : asked_beside (lined ("(bound a)" ∷ [])) ≡ refused 2 2
  pub misspelled_beside_4 : examine (counted ".i 2" ".o 1" ".ilb a a" ".ob f") (board "(bound a)" "(limit)") ≡ refused 2 2
  -- ---- 3 to 5 on the PLA names
  pub input_again : examine (counted ".i 2" ".o 1" ".ilb a a" ".ob f") (board "(bound a)" "(limit 9)") ≡ refused 4 3
  pub output_an_input : asked (counted ".i 1" ".o 1" ".ilb a" ".ob a") ≡ refused 4 4
  pub output_again : asked (counted ".i 1" ".o 2" ".ilb a" ".ob f f") ≡ refused 4 4
  -- ---- 3 to 5 on the second text
  pub bound-six : asked_beside (board "(bound a b a b a z)" "(limit 9)") ≡ refused 3 1
  pub bound_again : asked_beside (board "(bound a a z)" "(limit 9)") ≡ refused 4 1
  pub bound_unknown : asked_beside (board "(bound z)" "(limit 7)") ≡ refused 5 1
  pub limit_7 : asked_beside (board "(bound a)" "(limit 7)") ≡ refused 3 2
  -- ---- the text that number and line tell, for `end_missing`, `input_again`, `output_again`, `bound_again` and `limit_7`
  pub end_missing_told : refused_text 12 7 ≡ pla_text
  pub input_again_told : refused_text 4 3 ≡ pla_text
  pub output_again_told : refused_text 4 4 ≡ pla_text
  pub bound_again_told : refused_text 4 1 ≡ second_text
  pub limit_7_told : refused_text 3 2 ≡ second_text

longest : (p : List ℕ) → length p ≡ 32768 → read_pla p ≡ read_lines (ends_line p) (lines p)
unfolding read_pla
longest p e = ap (λ (n : ℕ). pick (within 1 max_pla n) (read_lines (ends_line p) (lines p)) (bad_line 0)) e

longer_read : (p : List ℕ) → length p ≡ 32769 → read_pla p ≡ bad_line 0
unfolding read_pla
longer_read p e = ap (λ (n : ℕ). pick (within 1 max_pla n) (read_lines (ends_line p) (lines p)) (bad_line 0)) e

longer : (p b : List ℕ) → length p ≡ 32769 → examine p b ≡ refused 12 0
unfolding examine examine_text
longer p b e = ap (λ (a : Answer). beside_text (further_asked a) b) (longer_read p e)

longer_sized : (b : List ℕ) → length b ≡ 4097 → sized b ≡ false
unfolding sized
longer_sized b e = ap (λ (n : ℕ). within 1 max_sheet n && plain_lines b) e

longer_board : (b : List ℕ) → length b ≡ 4097 → asked_beside b ≡ refused 1 0
unfolding computing
longer_board b e =
    ap (λ (x : Bool). pick x (with_board (read_board (lines b)) small_text) (refused 1 0)) (longer_sized b e)

pub worked_panels : WorkedPanels
unfolding computing
worked_panels =
    record {
      a_read = refl;
      a_printed = refl;
      a_valid = refl;
      a_inputs = refl;
      a_bound = refl;
      a_limit = refl;
      a_outputs = refl;
      f_digits = refl;
      g_digits = refl;
      f_values = refl;
      g_values = refl;
      either_value = refl;
      either_digits = refl;
      every-row = refl;
      every-digit = refl;
      two_cubes = refl;
      no_cubes = refl;
      no_ones = refl;
      zero_digits = refl;
      ten_inputs = refl;
      four_outputs = refl;
      empty_text = refl;
      both_empty = refl;
      longest_text = longest;
      longer_text = longer;
      zero_inputs = refl;
      leading_zero = refl;
      comment_line = refl;
      zero_outputs = refl;
      names_missing = refl;
      name_too_few = refl;
      name_too_many = refl;
      no_name = refl;
      two_spaces = refl;
      five_digits = refl;
      six_digits = refl;
      short_cube = refl;
      long_cube = refl;
      long_output_part = refl;
      other-literal = refl;
      p_too_many = refl;
      p_too_few = refl;
      end_missing = refl;
      end_missing_lines = refl;
      text_after_end = refl;
      last_not_ended = refl;
      eleven_inputs = refl;
      five_outputs = refl;
      tilde = refl;
      two = refl;
      space_as_mark = refl;
      zero_byte_as_mark = refl;
      later_12 = refl;
      count_12 = refl;
      empty_beside_14 = refl;
      empty-second = refl;
      longer_second = longer_board;
      second_not_ended = refl;
      bound_misspelled = refl;
      limit_misspelled = refl;
      three_lines = refl;
      one_line = refl;
      misspelled_beside_4 = refl;
      input_again = refl;
      output_an_input = refl;
      output_again = refl;
      bound-six = refl;
      bound_again = refl;
      bound_unknown = refl;
      limit_7 = refl;
      end_missing_told = refl;
      input_again_told = refl;
      output_again_told = refl;
      bound_again_told = refl;
      limit_7_told = refl;
    }
