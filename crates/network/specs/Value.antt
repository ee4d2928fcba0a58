-- The value of a network on a row, from its own tables: the shared tables are read at the row's vertex, and each node at
-- the row of what it reads and the free inputs (clauses 7.3 and 7.4). Assumes nothing.
use Rattle.std.specs.Prelude.{Bool, false, List, [], ◌++◌, map, ℕ, get_or}
use Rattle.rows.specs.Row.{row_of}
use Rattle.formula.specs.Value.{on_row}
use Rattle.sheet.specs.Examine.{Design}
use Rattle.classes.specs.Columns.{free, vertex_of}
use Rattle.network.specs.Network.{Network}

-- shared table i at vertex x
abbrev pub lut_at : Network → ℕ → ℕ → Bool
lut_at w i x = get_or (get_or w.luts i []) x false

-- the code that vertex x produces in the shared tables of a list
abbrev pub code_at : Network → List ℕ → ℕ → ℕ
code_at w is x = row_of (map (λ i. lut_at w i x) is)

-- shared table i on row r
unfoldable pub lut_on : Design → Network → ℕ → ℕ → Bool
lut_on d w r i = lut_at w i (vertex_of d.inputs d.bound r)

-- the row of a node's own inputs: the shared tables that it reads, then the free inputs
unfoldable pub node_row : Design → Network → List ℕ → ℕ → ℕ
node_row d w is r = row_of (map (lut_on d w r) is ++ map (on_row d.inputs r) (free d.inputs d.bound))

-- output o on row r
unfoldable pub network_on : Design → Network → ℕ → ℕ → Bool
network_on d w o r =
    let x = get_or w.nodes o (record { reads = []; digits = [] }) in
    get_or x.digits (node_row d w x.reads r) false
