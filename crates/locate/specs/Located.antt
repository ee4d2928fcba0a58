-- The line that a refusal names, as a part of one of the two sheets (clause 11.8): by 2 to 5 of the design sheet, by 10 and 11 of
-- the network sheet, without its 0x0A. Where there is no such line it is the empty part at that sheet's end, and for all other
-- numbers the one at the end of the design sheet. Assumes nothing.
use Rattle.std.specs.Prelude.{Bool, true, false, ◌&&◌, ◌||◌, List, [], ℕ, ◌-◌, eqb, leb, length, take}
use Rattle.bits.specs.Logic.{pick}
use Rattle.text.specs.Line.{lines, ended_lines, line_at}

-- a part of one of two sheets: whether it is one of the second, the network sheet, where it starts, and its bytes
pub record Part : Type 0 where
  pub second : Bool
  pub start : ℕ
  pub text : List ℕ

-- the questions whose line is one of the design sheet, and those whose line is one of the network sheet
unfoldable pub of_design : ℕ → Bool
of_design q = leb 2 q && leb q 5

unfoldable pub of_network : ℕ → Bool
of_network q = eqb q 10 || eqb q 11

-- whether a text has line l
unfoldable pub has_line : List ℕ → ℕ → Bool
has_line t l = leb 1 l && leb l (length (lines t))

-- where line l of a text starts, after the lines before it with their 0x0A, and its bytes; where there is no such line, the empty
-- part at the text's end
unfoldable pub start_of : List ℕ → ℕ → ℕ
start_of t l = pick (has_line t l) (length (ended_lines (take (l - 1) (lines t)))) (length t)

unfoldable pub text_of : List ℕ → ℕ → List ℕ
text_of t l = pick (has_line t l) (line_at (lines t) l) []

abbrev pub part_of : Bool → List ℕ → ℕ → Part
part_of second t l = record { second = second; start = start_of t l; text = text_of t l }

abbrev pub at_end : Bool → List ℕ → Part
at_end second t = record { second = second; start = length t; text = [] }

-- what is handed back for a refusal by q on line l of the design sheet d or the network sheet t
unfoldable pub located : List ℕ → List ℕ → ℕ → ℕ → Part
located d t q l = pick (of_network q) (part_of true t l) (pick (of_design q) (part_of false d l) (at_end false d))

-- the sheet that a part is one of
abbrev pub sheet_of : {A : Type 0} → Bool → A → A → A
sheet_of second d t = pick second t d
