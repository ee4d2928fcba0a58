-- The most bytes of each part of a text in BLIF as the code counts them: the limits, and the texts that stand between. Every
-- block is counted as one over as many inputs as a design may have. Assumes nothing.
use Rattle.std.specs.Prelude.{ℕ, ◌+◌, ◌*◌, length}
use Prim.Native.String.{String}
use Rattle.limits.specs.Limits.{max_inputs, max_outputs, max_cells, max_rows}
use Rattle.text.specs.Bytes.{bytes}
use Rattle.emit.specs.Written.{item_room}

-- the bytes of a quoted text
abbrev pub size : String → ℕ
size s = length (bytes s)

-- the lines of the inputs and of the outputs, and with them all lines before the blocks
abbrev inputs_room : ℕ
inputs_room = size ".inputs" + item_room * max_inputs + 1

abbrev outputs_room : ℕ
outputs_room = size ".outputs" + item_room * max_outputs + 1

abbrev pub head_room : ℕ
head_room = size ".model panel\n" + inputs_room + outputs_room

-- the names of cells; a block's first line: the cells that it reads, inputs, and what it drives
abbrev pub cells_room : ℕ
cells_room = item_room * max_cells

abbrev names_room : ℕ
names_room = size ".names" + cells_room + item_room * max_inputs + item_room + 1

-- the line of a row, the lines of all rows, and a block
abbrev pub row_room : ℕ
row_room = max_inputs + size " 1\n"

abbrev pub rows_room : ℕ
rows_room = row_room * max_rows

abbrev pub block_room : ℕ
block_room = names_room + rows_room

abbrev pub luts_room : ℕ
luts_room = block_room * max_cells

abbrev pub nodes_room : ℕ
nodes_room = block_room * max_outputs

abbrev pub end_room : ℕ
end_room = size ".end\n"

abbrev pub text_room : ℕ
text_room = head_room + luts_room + nodes_room + end_room
