-- The most bytes of each part of a network sheet: the limits, and the texts that stand between. Assumes nothing.
use Rattle.std.specs.Prelude.{ℕ, ◌+◌, ◌*◌, length}
use Prim.Native.String.{String}
use Rattle.limits.specs.Limits.{max_name, max_outputs, max_cells, max_vertices, max_free_rows, max_codes}
use Rattle.text.specs.Bytes.{bytes}
use Rattle.emit.specs.Written.{item_room}
use Rattle.network.specs.Shown.{max_names}

-- the bytes of a quoted text
abbrev size : String → ℕ
size s = length (bytes s)

-- the first line, of an edition of one digit
abbrev pub head_room : ℕ
head_room = size "(network 1)\n"

-- the items of a list, and what ends it
abbrev pub list_room : ℕ
list_room = item_room * max_names + size ") "

-- a lut line up to its digits, the line, and all lut lines
abbrev pub lut_head_room : ℕ
lut_head_room = size "(lut " + max_name + size " (" + list_room

abbrev pub lut_room : ℕ
lut_room = lut_head_room + max_vertices + size ")\n"

abbrev pub luts_room : ℕ
luts_room = lut_room * max_cells

-- a composition table
abbrev pub entries_room : ℕ
entries_room = max_codes * max_free_rows

-- a node line up to its list, the line, and all node lines
abbrev pub node_head_room : ℕ
node_head_room = size "(node " + max_name + size " ("

abbrev pub node_room : ℕ
node_room = node_head_room + list_room + entries_room + size ")\n"

abbrev pub nodes_room : ℕ
nodes_room = node_room * max_outputs

-- the count line, of one digit, and the last line
abbrev pub end_room : ℕ
end_room = size "(count 0)\n(end)\n"

abbrev pub sheet_room : ℕ
sheet_room = head_room + luts_room + nodes_room + end_room
