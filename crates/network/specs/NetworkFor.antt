-- The networks that can be written beside a design (clause 7.5): whatever their digits are, and whichever of their own shared
-- tables a node reads. Assumes nothing.
use Rattle.std.specs.Prelude.{◌≡◌, true, List, [], ℕ, ◌+◌, ◌^◌, ◌≤◌, ◌<◌, length, get_or}
use Rattle.limits.specs.Limits.{max_cells}
use Rattle.names.specs.Name.{Name}
use Rattle.names.specs.Names.{all_names}
use Rattle.sheet.specs.Examine.{Design, output_names}
use Rattle.classes.specs.Columns.{free}
use Rattle.network.specs.Network.{Network, Node}
use Rattle.network.specs.Reads.{Rising}

-- a node beside u shared tables and the free inputs fs: it reads shared tables by rising number, and has a digit for each
-- row of what it reads and the free inputs
pub record NodeFits (fs : List Name) (u : ℕ) (x : Node) : Type 0 where
  pub rises : Rising 0 u x.reads
  pub counted : length x.digits ≡ 2 ^ (length x.reads + length fs)

-- node o, from 0
abbrev pub node_at : List Node → ℕ → Node
node_at xs o = get_or xs o (record { reads = []; digits = [] })

-- a network that can be written beside the design d
pub record NetworkFor (d : Design) (w : Network) : Type 0 where
  pub few_luts : length w.luts ≤ max_cells
  pub lut_digits : (i : ℕ) → i < length w.luts → length (get_or w.luts i []) ≡ 2 ^ length d.bound
  pub node_each : length w.nodes ≡ length d.outputs
  pub node_fits : (o : ℕ)
      → o < length w.nodes
      → NodeFits (free d.inputs d.bound) (length w.luts) (node_at w.nodes o)

-- a design with outputs, all of whose names are names
pub record Named (d : Design) : Type 0 where
  pub inputs_named : all_names d.inputs ≡ true
  pub bound-named : all_names d.bound ≡ true
  pub outputs_named : all_names (output_names d.outputs) ≡ true
  pub some-output : 1 ≤ length d.outputs
