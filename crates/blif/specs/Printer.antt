-- A network as a text in BLIF (clauses 12.1 to 12.4): the model `panel`, the inputs and outputs of the design, and a block of rows
-- for each shared table and each node. Assumes nothing.
use Rattle.std.specs.Prelude.{Bool, List, [], ◌∷◌, ◌++◌, map, ℕ, suc, length}
use Rattle.bits.specs.Logic.{pick}
use Rattle.rows.specs.Row.{values_of}
use Rattle.text.specs.Bytes.{bytes}
use Rattle.text.specs.Line.{ended_lines}
use Rattle.text.specs.Number.{print_number}
use Rattle.names.specs.Name.{Name}
use Rattle.names.specs.Names.{print_names}
use Rattle.sheet.specs.Examine.{Design, output_names}
use Rattle.classes.specs.Columns.{free}
use Rattle.network.specs.Network.{Network, Node}
use Rattle.network.specs.Printer.{print_digits}

-- the name of cell i: `CC_0`, `CC_1` and so on; no name of a design has an underscore
unfoldable pub cell_name : ℕ → Name
cell_name i = bytes "CC_" ++ print_number i

-- the line of a row of value 1: the row's digits, first listed input first, a space, `1`; without inputs just `1`
abbrev pub row_line : List Bool → List ℕ
row_line [] = bytes "1"
row_line (v ∷ vs) = print_digits (v ∷ vs) ++ bytes " 1"

-- the lines of the rows of value 1 of n inputs, rising, where ds are the digits from row r on
unfoldable pub row_lines : ℕ → ℕ → List Bool → List (List ℕ)
row_lines n r [] = []
row_lines n r (v ∷ ds) =
    let later = row_lines n (suc r) ds in
    pick v (row_line (values_of n r) ∷ later) later

-- the block of the table ds over the inputs is, which drives n
unfoldable pub block : List Name → Name → List Bool → List (List ℕ)
block is n ds = (bytes ".names" ++ print_names (is ++ (n ∷ []))) ∷ row_lines (length is) 0 ds

-- the blocks of the shared tables from number i on, over the bound inputs
unfoldable pub lut_blocks : List Name → ℕ → List (List Bool) → List (List ℕ)
lut_blocks bs i [] = []
lut_blocks bs i (t ∷ ts) = block bs (cell_name i) t ++ lut_blocks bs (suc i) ts

-- the blocks of the nodes, each over the cells that it reads and the free inputs
unfoldable pub node_blocks : List Name → List Name → List Node → List (List ℕ)
node_blocks fs [] xs = []
node_blocks fs (n ∷ ns) [] = []
node_blocks fs (n ∷ ns) (x ∷ xs) = block (map cell_name x.reads ++ fs) n x.digits ++ node_blocks fs ns xs

-- the name of the model
abbrev pub model_name : List ℕ
model_name = bytes "panel"

unfoldable pub blif_lines : Design → Network → List (List ℕ)
blif_lines d w =
    (bytes ".model " ++ model_name)
    ∷ (bytes ".inputs" ++ print_names d.inputs)
    ∷ (bytes ".outputs" ++ print_names (output_names d.outputs))
    ∷ (lut_blocks d.bound 0 w.luts
    ++ (node_blocks (free d.inputs d.bound) (output_names d.outputs) w.nodes
    ++ (bytes ".end" ∷ [])))

unfoldable pub print_blif : Design → Network → List ℕ
print_blif d w = ended_lines (blif_lines d w)
