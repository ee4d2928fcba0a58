-- The model that a network's text says. No contract cites it: reading the text gives it, and its signals have the network's
-- values. Assumes nothing.
use Rattle.std.specs.Prelude.{Bool, List, [], ◌∷◌, ◌++◌, map, ℕ, suc, length}
use Rattle.bits.specs.Logic.{pick}
use Rattle.rows.specs.Row.{values_of}
use Rattle.names.specs.Name.{Name}
use Rattle.sheet.specs.Examine.{Design, output_names}
use Rattle.classes.specs.Columns.{free}
use Rattle.network.specs.Network.{Network, Node}
use Rattle.blif.specs.Printer.{cell_name, model_name}
use Rattle.blif.specs.Model.{Mark, must_be, Block, Model}

-- the rows of value 1 of n inputs, where ds are the digits from row r on
unfoldable pub cover_of : ℕ → ℕ → List Bool → List (List Mark)
cover_of n r [] = []
cover_of n r (v ∷ ds) =
    let later = cover_of n (suc r) ds in
    pick v (map must_be (values_of n r) ∷ later) later

unfoldable pub block_of : List Name → Name → List Bool → Block
block_of is n ds = record { reads = is; drives = n; cover = cover_of (length is) 0 ds }

unfoldable pub lut_blocks_of : List Name → ℕ → List (List Bool) → List Block
lut_blocks_of bs i [] = []
lut_blocks_of bs i (t ∷ ts) = block_of bs (cell_name i) t ∷ lut_blocks_of bs (suc i) ts

unfoldable pub node_blocks_of : List Name → List Name → List Node → List Block
node_blocks_of fs [] xs = []
node_blocks_of fs (n ∷ ns) [] = []
node_blocks_of fs (n ∷ ns) (x ∷ xs) = block_of (map cell_name x.reads ++ fs) n x.digits ∷ node_blocks_of fs ns xs

unfoldable pub model_of : Design → Network → Model
model_of d w =
    record {
      name = model_name;
      inputs = d.inputs;
      outputs = output_names d.outputs;
      blocks =
          lut_blocks_of d.bound 0 w.luts
          ++ node_blocks_of (free d.inputs d.bound) (output_names d.outputs) w.nodes;
    }
