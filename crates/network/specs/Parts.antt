-- The parts of a network sheet beside a design: the names that it repeats, the places of its nodes, and its last lines
-- (section 8 of docs/SPECIFICATION.md). Assumes nothing.
use Rattle.std.specs.Prelude.{Bool, List, [], ◌∷◌, ◌++◌, ℕ, ltb, length, get_or}
use Rattle.std.proofs.Math.Option.{Option}
use Rattle.bits.specs.Logic.{pick}
use Rattle.names.specs.Name.{Name}
use Rattle.sheet.specs.Lines.{end_line}
use Rattle.sheet.specs.Examine.{Design, output_names}
use Rattle.classes.specs.Columns.{free}
use Rattle.network.specs.Network.{Network, Node}
use Rattle.network.specs.Printer.{print_count}
use Rattle.network.specs.Reader.{read_node}
use Rattle.network.specs.Examine.{Place, at_node, at_count}

abbrev pub free_of : Design → List Name
free_of d = free d.inputs d.bound

abbrev pub names_of : Design → List Name
names_of d = output_names d.outputs

-- how the node of output o is read, where v is said before
abbrev pub node_read : Design → Network → ℕ → List ℕ → Option Node
node_read d v o l = read_node (get_or (names_of d) o []) (free_of d) (length v.luts) l

-- the place of the node of output o; after the last node, that of the count
abbrev pub node_place : Design → ℕ → Place
node_place d o = pick (ltb o (length d.outputs)) (at_node o) at_count

-- the lines from the count on, beside u shared tables
abbrev pub last_lines : ℕ → List (List ℕ)
last_lines u = print_count u ∷ end_line ∷ []

-- a network with more nodes, and with more shared tables too
abbrev pub with_nodes : Network → List Node → Network
with_nodes w xs = record { luts = w.luts; nodes = w.nodes ++ xs }

abbrev pub with_all : Network → List (List Bool) → List Node → Network
with_all w ts xs = record { luts = w.luts ++ ts; nodes = w.nodes ++ xs }
