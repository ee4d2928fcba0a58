-- The core of a network: its shared tables as cells, each with the outputs whose nodes read it; and the problem that a
-- design poses to cores. Assumes nothing.
use Rattle.std.specs.Prelude.{◌≡◌, Bool, true, false, ◌||◌, List, [], ◌∷◌, ℕ, zero, suc, eqb, length, get_or}
use Rattle.cells.specs.Core.{Cell, Serves}
use Rattle.sheet.specs.Examine.{Design}
use Rattle.classes.specs.Columns.{conflict, vertex_count}
use Rattle.classes.specs.Width.{budget}
use Rattle.network.specs.Network.{Network, Node}
use Rattle.network.specs.Value.{lut_at}

-- the node of output o
abbrev pub node_of : Network → ℕ → Node
node_of w o = get_or w.nodes o (record { reads = []; digits = [] })

-- whether a number is in a list
unfoldable pub has : ℕ → List ℕ → Bool
has i [] = false
has i (j ∷ js) = eqb j i || has i js

-- k cells from number i on
unfoldable pub cells_of : Network → ℕ → ℕ → List Cell
cells_of w zero i = []
cells_of w (suc k) i =
    record { table = lut_at w i; readers = λ o. has i (node_of w o).reads } ∷ cells_of w k (suc i)

unfoldable pub network_core : Network → List Cell
network_core w = cells_of w (length w.luts) 0

-- vertices whose columns conflict in output o
abbrev pub Conflicts : Design → ℕ → ℕ → ℕ → Type 0
Conflicts d o x y = conflict d d.bound o x y ≡ true

-- a core serves a design
abbrev pub ServesDesign : Design → List Cell → Type 0
ServesDesign d l = Serves (vertex_count d.bound) (length d.outputs) (Conflicts d) (budget d d.bound) l
