-- The network of a core: its tables written out, and for each output the composition table that the columns ask for.
-- Entries of codes that occur at no vertex are 0 (clause 7.10). Assumes nothing.
use Rattle.std.specs.Prelude.{Bool, false, List, [], ◌∷◌, map, ℕ, zero, suc, ◌+◌, ◌/◌, ◌%◌, ◌^◌, eqb, length}
use Rattle.std.proofs.Math.Option.{Option, some, none}
use Rattle.bits.specs.Digit.{on}
use Rattle.rows.specs.Row.{row_of}
use Rattle.sheet.specs.Examine.{Design}
use Rattle.classes.specs.Columns.{free, vertex_count, free_count, value_at}
use Rattle.bits.specs.Values.{values_upto}
use Rattle.network.specs.Network.{Network, Node}
use Rattle.network.specs.Check.{first_of}
use Rattle.network.specs.Numbers.{numbers_of}

-- the code of a vertex in the tables of a list, the first highest; table i is digit i of the vertex's number
unfoldable pub code_in : List ℕ → ℕ → ℕ
code_in is n = row_of (map (on n) is)

-- a composition entry, by the first vertex that produces its code
abbrev pub entry_at : Design → ℕ → ℕ → Option ℕ → Bool
entry_at d o z (some x) = value_at d d.bound o x z
entry_at d o z none = false

unfoldable pub entry : Design → (ℕ → ℕ) → ℕ → List ℕ → ℕ → Bool
entry d codes o is j =
    entry_at d o (j % free_count d.inputs d.bound)
    (first_of (λ x. eqb (code_in is (codes x)) (j / free_count d.inputs d.bound)) (vertex_count d.bound) 0)

unfoldable pub node_built : Design → (ℕ → ℕ) → ℕ → List ℕ → Node
node_built d codes o is =
    record { reads = is; digits = values_upto (entry d codes o is) (2 ^ (length is + length (free d.inputs d.bound))) }

unfoldable pub luts_built : Design → (ℕ → ℕ) → ℕ → ℕ → List (List Bool)
luts_built d codes zero i = []
luts_built d codes (suc k) i = values_upto (λ x. on (codes x) i) (vertex_count d.bound) ∷ luts_built d codes k (suc i)

unfoldable pub nodes_built : Design → ℕ → (ℕ → ℕ) → (ℕ → ℕ) → ℕ → ℕ → List Node
nodes_built d u rows codes zero o = []
nodes_built d u rows codes (suc k) o = node_built d codes o (numbers_of u (rows o)) ∷ nodes_built d u rows codes k (suc o)

-- the network of u tables: the tables that output o reads are the digits of rows o, table i at vertex x is digit i of codes x
unfoldable pub built : Design → ℕ → (ℕ → ℕ) → (ℕ → ℕ) → Network
built d u rows codes =
    record { luts = luts_built d codes u 0; nodes = nodes_built d u rows codes (length d.outputs) 0 }
