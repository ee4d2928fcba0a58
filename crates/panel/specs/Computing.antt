-- All that the examination of a pair, the values of its outputs and the printer of a PLA text compute with, named once: under
-- `unfolding computing` the answer for given texts is computed. What stands here says nothing by itself. Assumes nothing.
use Rattle.text.specs.Line.{ends_line}
use Rattle.design.specs.Computing as sheets
use Rattle.cubes.specs.Cube.{print_cube, read_literals, read_bytes, read_cube}
use Rattle.cubes.specs.Cover.{covers, cover_on}
use Rattle.cubes.specs.Terms.{joined, literal_formulas, on_set, cover_formula}
use Rattle.platext.specs.Lines.{print_count, print_named, read_count, names_of, read_named}
use Rattle.platext.specs.Text.{pla_lines, print_pla, read_cube_line, at_last, read_cubes, read_lines, read_pla}
use Rattle.panel.specs.Questions.{too_many, zeros_and_ones, other_mark, examine_text}
use Rattle.panel.specs.Board.{read_board}
use Rattle.panel.specs.Examine.{outputs_from, ask_outputs, examine}

cubes : Unit {0}
unfolding print_cube read_literals read_bytes read_cube covers cover_on joined literal_formulas on_set cover_formula
cubes = tt

texts : Unit {0}
unfolding ends_line print_count print_named read_count names_of read_named
    pla_lines print_pla read_cube_line at_last read_cubes read_lines read_pla
texts = tt

questions : Unit {0}
unfolding too_many zeros_and_ones other_mark examine_text read_board outputs_from ask_outputs examine
questions = tt

unfoldable pub computing : Unit {0}
unfolding sheets.computing cubes texts questions
computing = tt
