-- The sheets to try (section 16) that concern reading and Table, and the points of the specification that want an example, as
-- theorems about the definitions: each holds by computation. To be read beside docs/SPECIFICATION.md and docs/DECISIONS.md.
-- Assumes nothing.
use Rattle.std.specs.Prelude.{◌≡◌, refl, Bool, true, List, [], ◌∷◌, ℕ}
use Rattle.std.proofs.Math.Option.{some, none}
use Rattle.text.specs.Bytes.{bytes}
use Rattle.names.specs.Name.{Name, is_name}
use Rattle.cursor.specs.Opening.{xor_gate}
use Rattle.formula.specs.Tree as tree
use Rattle.formula.specs.Tree.{Formula, input, gate, more}
use Rattle.formula.specs.Value.{value, combine}
use Rattle.sheet.specs.Lines.{read_in, read_out}
use Rattle.sheet.specs.Examine.{refused, valid, examine}
use Rattle.sheet.specs.Printer.{print_design}
use Rattle.design.specs.Tabulate.{tabulate, written, untouched}
use Rattle.design.specs.Sheets.{sheet_a, design_a, sheet_capitals, design_capitals}
use Rattle.design.specs.Sheets.{with_limit, first_line, after_design, after_limit, nested, negations, with_formula, design_of}
use Rattle.design.specs.Computing.{computing}

-- ---- sheet A: what it says, that this is printed to its text, and the tables of f and g
a_design : examine sheet_a ≡ valid design_a
unfolding computing
a_design = refl

a_printed : print_design design_a ≡ sheet_a
unfolding computing
a_printed = refl

a_table_f : tabulate sheet_a 0 (bytes "................") ≡ record { answer = written 16; buffer = bytes "0110100110010110" }
unfolding computing
a_table_f = refl

a_table_g : tabulate sheet_a 1 (bytes "................") ≡ record { answer = written 16; buffer = bytes "0001010001000001" }
unfolding computing
a_table_g = refl

-- with a buffer of 17 bytes the last stays; 15 bytes are too few; a third output does not exist, whatever the buffer
a_table_later : tabulate sheet_a 1 (bytes "................!") ≡ record { answer = written 16; buffer = bytes "0001010001000001!" }
unfolding computing
a_table_later = refl

a_table_short : tabulate sheet_a 0 (bytes "...............") ≡ untouched 9 0 (bytes "...............")
unfolding computing
a_table_short = refl

a_table_no_output : (b : List ℕ) → tabulate sheet_a 2 b ≡ untouched 6 0 b
unfolding computing
a_table_no_output b = refl

-- ---- the same with capitals
capitals_design : examine sheet_capitals ≡ valid design_capitals
unfolding computing
capitals_design = refl

capitals_table : tabulate sheet_capitals 1 (bytes "................") ≡ record { answer = written 16; buffer = bytes "0001010001000001" }
unfolding computing
capitals_table = refl

-- questions 4 and 5 ignore case: an input or a bound input again, an output beside an input or an output, and what is found
capitals_asked : (examine (after_design "(in a A)\n") ≡ refused 4 2)
    × (examine (after_design "(in a b)\n(bound A a)\n") ≡ refused 4 3)
    × (examine (after_limit "(out A 1)\n") ≡ refused 4 5)
    × (examine (after_limit "(out f a)\n(out F b)\n") ≡ refused 4 6)
    × (examine (after_limit "(out f C)\n") ≡ refused 5 5)
    × (examine (after_limit "(out f B)\n(end)\n") ≡ valid (design_of (input (bytes "B"))))
unfolding computing
capitals_asked = (refl, refl, refl, refl, refl, refl)

-- an operator word is no name, whatever its case; operators have small letters, and so have the words that begin lines
capitals_spelled : (read_in (bytes "(in Xor)") ≡ none)
    × (read_in (bytes "(IN a)") ≡ none)
    × (read_out (bytes "(out NOT a)") ≡ none)
    × (read_out (bytes "(out f And)") ≡ none)
    × (read_out (bytes "(out f (AND a b))") ≡ none)
    × (read_out (bytes "(out f (Not a))") ≡ none)
    × (is_name (bytes "ANDy") ≡ true)
unfolding computing
capitals_spelled = (refl, refl, refl, refl, refl, refl, refl)

-- ---- sheet K: the empty text, and `(limit 7)`
k_empty : examine [] ≡ refused 1 0
unfolding computing
k_empty = refl

k_limit : examine (with_limit "7") ≡ refused 3 4
unfolding computing
k_limit = refl

-- a refused sheet leaves Table's buffer as it was
k_table : (o : ℕ) (b : List ℕ) → tabulate (with_limit "7") o b ≡ untouched 3 4 b
unfolding computing
k_table o b = refl

-- ---- `xor` does not ask for just one operand: three that are true make it true
xor_of_three : (v : Name → Bool) (e f g : Formula) → value v e ≡ true → value v f ≡ true → value v g ≡ true
    → value v (gate xor_gate e f (more g tree.none)) ≡ true
unfolding value combine
xor_of_three v e f g p q r = rw (p, q, r) refl

-- ---- question 1: the last byte is 0x0A, and every other is that or 0x20 to 0x7E
not-ended : examine (bytes "(design 1)") ≡ refused 1 0
unfolding computing
not-ended = refl

not_plain : examine (after_design "(in\ta)\n") ≡ refused 1 0
unfolding computing
not_plain = refl

-- the first and the last of these bytes, where the line is then asked, and the bytes beside them
plain-bytes : (examine (first_line 0x20) ≡ refused 2 1)
    × (examine (first_line 0x7E) ≡ refused 2 1)
    × (examine (first_line 0x1F) ≡ refused 1 0)
    × (examine (first_line 0x7F) ≡ refused 1 0)
unfolding computing
plain-bytes = (refl, refl, refl, refl)

-- ---- how the specification is read, by the number of the decision
-- 1: one 0x0A alone is an empty line
one-newline : examine (bytes "\n") ≡ refused 2 1
unfolding computing
one-newline = refl

-- 2: no names but the operator words are kept back
other-words : read_in (bytes "(in in out)") ≡ some (bytes "in" ∷ bytes "out" ∷ [])
unfolding computing
other-words = refl

-- 3: an operator word or nine characters are no name, and neither a digit 2 nor a digit with a letter is a formula
no_names : (read_in (bytes "(in and)") ≡ none) × (read_in (bytes "(in abcdefghi)") ≡ none) × (read_out (bytes "(out not a)") ≡ none)
unfolding computing
no_names = (refl, refl, refl)

no_formulas : (read_out (bytes "(out f 2)") ≡ none) × (read_out (bytes "(out f 0a)") ≡ none)
unfolding computing
no_formulas = (refl, refl)

longer_words : (is_name (bytes "andy") ≡ true)
    × (is_name (bytes "and1") ≡ true)
    × (is_name (bytes "nota") ≡ true)
    × (is_name (bytes "orx") ≡ true)
unfolding computing
longer_words = (refl, refl, refl, refl)

-- 4: how N is spelled
limit_spelling : (examine (with_limit "07") ≡ refused 2 4)
    × (examine (with_limit "1000") ≡ refused 2 4)
    × (examine (with_limit "999") ≡ refused 3 4)
unfolding computing
limit_spelling = (refl, refl, refl)

-- 5: counts are question 3's: `(in)` is spelled right, `(and a)` is not
counts : (examine (after_design "(in)\n") ≡ refused 3 2)
    × (examine (after_design "(in a b c d e f g h i j k)\n") ≡ refused 3 2)
    × (examine (after_design "(in a)\n(bound)\n") ≡ refused 3 3)
    × (examine (after_limit "(out f (and a))\n") ≡ refused 2 5)
unfolding computing
counts = (refl, refl, refl, refl)

-- 6: on one line the lowest number wins
lowest_number : (examine (after_design "(in a b c d)\n(bound a a b c d z)\n") ≡ refused 3 3)
    × (examine (after_design "(in a)\n(bound a a z)\n") ≡ refused 4 3)
    × (examine (after_limit "(out f a)\n(out g a)\n(out h a)\n(out i a)\n(out a z)\n") ≡ refused 3 9)
unfolding computing
lowest_number = (refl, refl, refl)

-- 7: question 4 asks NAME, question 5 the formula's names; an output is no input
out_names : (examine (after_limit "(out a z)\n") ≡ refused 4 5)
    × (examine (after_limit "(out f z)\n") ≡ refused 5 5)
    × (examine (after_limit "(out f a)\n(out g f)\n") ≡ refused 5 6)
    × (examine (after_limit "(out f a)\n(out f b)\n") ≡ refused 4 6)
unfolding computing
out_names = (refl, refl, refl, refl)

-- 8: where `(end)` may stand, and what may stand after the `limit` line
end_places : (examine (after_design "(end)\n") ≡ refused 2 2)
    × (examine (after_limit "(end)\n") ≡ refused 3 5)
    × (examine (after_limit "(limit 0)\n") ≡ refused 2 5)
unfolding computing
end_places = (refl, refl, refl)

-- 9: a sheet that stops early, and text after `(end)`
early_and_late : (examine (after_design "") ≡ refused 2 2)
    × (examine (after_limit "(out f a)\n") ≡ refused 2 6)
    × (examine (after_limit "(out f a)\n(end)\n\n") ≡ refused 2 7)
    × (examine (after_limit "(end)\n(end)\n") ≡ refused 3 5)
unfolding computing
early_and_late = (refl, refl, refl, refl)

-- 10: 32 brackets pass, 33 are too many, and a formula of any depth is read to its end
depth_allowed : examine (with_formula (nested 32 "a")) ≡ valid (design_of (negations 32 (input (bytes "a"))))
unfolding computing
depth_allowed = refl

too_deep : (examine (with_formula (nested 33 "a")) ≡ refused 3 5) × (examine (with_formula (nested 670 "2")) ≡ refused 2 5)
unfolding computing
too_deep = (refl, refl)

-- 11: the first line with a "no" decides
first_line_lem : examine (after_design "(in a a)\n(bound)\n") ≡ refused 4 2
unfolding computing
first_line_lem = refl

-- spaces and brackets (clause 3.2): what is no formula and no line
no_items : (read_out (bytes "(out f (nota b))") ≡ none)
    × (read_out (bytes "(out f (a))") ≡ none)
    × (read_out (bytes "(out f ())") ≡ none)
    × (read_out (bytes "(out f (and(not a) b))") ≡ none)
    × (read_out (bytes "(out f (and a b ))") ≡ none)
    × (read_out (bytes "(out f (and a  b))") ≡ none)
    × (read_in (bytes "(in )") ≡ none)
    × (read_in (bytes "(in a) ") ≡ none)
unfolding computing
no_items = (refl, refl, refl, refl, refl, refl, refl, refl)
