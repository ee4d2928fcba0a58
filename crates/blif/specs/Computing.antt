-- All that the printing and the reading of BLIF compute with, named once: under `unfolding computing` the answer for given
-- texts is computed. What stands here says nothing by itself. Assumes nothing.
use Rattle.rows.specs.Row.{values_of}
use Rattle.text.specs.Line.{ended_lines}
use Rattle.names.specs.Names.{print_names}
use Rattle.names.specs.Spelled.{stands_in}
use Rattle.network.specs.Computing as network
use Rattle.blif.specs.Printer.{cell_name, row_lines, block, lut_blocks, node_blocks, blif_lines, print_blif}
use Rattle.blif.specs.Words.{plain_byte, plain, all_plain, blank, words}
use Rattle.blif.specs.Reader.{marks_of, said, read_rest, word_lines, once, read_blif}
use Rattle.blif.specs.Value.{covers, given, driver, all_values, value_within, value_in}
use Rattle.blif.specs.Export.{put_text, export_of, export}

printing : Unit {0}
unfolding values_of ended_lines print_names cell_name row_lines block lut_blocks node_blocks blif_lines print_blif put_text export_of export
printing = tt

reading : Unit {0}
unfolding plain_byte plain all_plain blank words marks_of said read_rest word_lines stands_in once read_blif
reading = tt

valuing : Unit {0}
unfolding covers given driver all_values value_within value_in
valuing = tt

unfoldable pub computing : Unit {0}
unfolding network.computing printing reading valuing
computing = tt
