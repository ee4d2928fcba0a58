-- All that the examination, classes, widths, networks and Check compute with, named once: under `unfolding computing` the
-- answer for given sheets is computed. What stands here says nothing by itself. Assumes nothing.
use Rattle.rows.specs.Row.{row_of}
use Rattle.text.specs.Line.{ends_line}
use Rattle.sheet.specs.Computing as sheets
use Rattle.classes.specs.Columns.{free, on_parts, join_row, vertex_of, free_row_of, value_at, column, same_values, apart, conflict, alike, alike_upto}
use Rattle.bits.specs.Values.{values_upto}
use Rattle.classes.specs.Classes.{first_from, first_like, class_count, class_of, local_count, global_count}
use Rattle.classes.specs.Width.{width_from, width_of, width, budget}
use Rattle.network.specs.Printer.{led_all, lut_name, print_digits, lut_head, print_lut, node_head, print_node, print_count, lut_lines, node_lines, network_lines, print_network}
use Rattle.network.specs.Given.{read_given, read_givens}
use Rattle.network.specs.Reader.{read_digits, read_inputs, read_lut_head, read_lut, read_reads, read_node_head, read_node}
use Rattle.network.specs.Examine.{ask_node, ask_lut, ask_line, ask_lines, read_network, wide_node, offending}
use Rattle.network.specs.Value.{lut_on, node_row, network_on}
use Rattle.network.specs.Check.{first_of, differs_on, differing_row, compare_from, examine_pair, check_of, check}

classes : Unit {0}
unfolding row_of free on_parts join_row vertex_of free_row_of value_at values_upto column same_values apart conflict alike alike_upto
    first_from first_like class_count class_of local_count global_count width_from width_of width budget
classes = tt

printing : Unit {0}
unfolding led_all lut_name print_digits lut_head print_lut node_head print_node print_count lut_lines node_lines network_lines print_network
printing = tt

reading : Unit {0}
unfolding read_given read_givens read_digits read_inputs read_lut_head read_lut read_reads read_node_head read_node
    ask_node ask_lut ask_line ask_lines ends_line read_network wide_node offending
reading = tt

checking : Unit {0}
unfolding lut_on node_row network_on first_of differs_on differing_row compare_from examine_pair check_of check
checking = tt

unfoldable pub computing : Unit {0}
unfolding sheets.computing classes printing reading checking
computing = tt
