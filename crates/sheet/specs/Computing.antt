-- All that questions 1 to 5, an output's value and the printer compute with, named once: under `unfolding computing` the answer
-- for a given sheet is computed. What stands here says nothing by itself. Assumes nothing.
use Rattle.bits.specs.Digit.{on, digit}
use Rattle.text.specs.Bytes.{same, eat}
use Rattle.text.specs.Line.{lines, ended_lines}
use Rattle.text.specs.Number.{numeral, numerals, after_numerals, value_from, is_number_of, read_number_of, print_number_of, read_number, print_number}
use Rattle.names.specs.Case.{lower}
use Rattle.names.specs.Name.{letter, name_byte, word, after_word, operator, is_name, read_name, same_name, among, distinct, all_among}
use Rattle.names.specs.Spelled.{spelled_by}
use Rattle.names.specs.Names.{print_names, names_within, read_names}
use Rattle.cursor.specs.Opening.{read_opening}
use Rattle.formula.specs.Tree.{depth, knows}
use Rattle.formula.specs.Printer.{print}
use Rattle.formula.specs.Reader.{read_within, read_formula}
use Rattle.formula.specs.Value.{combine, value, on_row}
use Rattle.sheet.specs.Lines.{print_in, print_bound, print_limit, print_out, read_in, read_bound, read_limit, read_out}
use Rattle.sheet.specs.Examine.{plain, plain_lines, sized, ask_in, ask_bound, ask_limit, ask_out, ask_end, ask_line, ask_lines, examine}
use Rattle.sheet.specs.Printer.{design_lines, print_design}
use Rattle.sheet.specs.Value.{output_on}

texts : Unit {0}
unfolding same eat lines numeral numerals after_numerals value_from is_number_of read_number_of read_number
texts = tt

names : Unit {0}
unfolding lower letter name_byte word after_word operator is_name read_name same_name among distinct all_among spelled_by names_within read_names
names = tt

formulas : Unit {0}
unfolding read_opening read_within read_formula depth knows combine value on_row on digit output_on
formulas = tt

questions : Unit {0}
unfolding read_in read_bound read_limit read_out plain plain_lines sized ask_in ask_bound ask_limit ask_out ask_end ask_line ask_lines examine
questions = tt

printing : Unit {0}
unfolding ended_lines print_number_of print_number print_names print print_in print_bound print_limit print_out design_lines print_design
printing = tt

unfoldable pub computing : Unit {0}
unfolding texts names formulas questions printing
computing = tt
