-- What the answers of Check say, in plain statements: question 11 (clause 7.6), "same" (clause 7.7), and "differs" with the
-- lowest output and row (clause 11.4); and what a rival draws (clause 14.3). Assumes nothing.
use Rattle.std.specs.Prelude.{◌≡◌, List, ℕ, ◌+◌, ◌^◌, ◌≤◌, ◌<◌, length}
use Rattle.std.proofs.Math.Option.{none}
use Rattle.limits.specs.Limits.{first_lut}
use Rattle.sheet.specs.Examine.{Design}
use Rattle.sheet.specs.Value.{output_on}
use Rattle.classes.specs.Width.{budget}
use Rattle.network.specs.Network.{Network}
use Rattle.network.specs.Examine.{network, read_network, offending}
use Rattle.network.specs.Value.{network_on}
use Rattle.network.specs.NetworkFor.{node_at}

-- how many shared tables output o reads
abbrev pub read_count : Network → ℕ → ℕ
read_count w o = length (node_at w.nodes o).reads

-- question 11: no more lut lines than the limit, and no node reads more tables than its budget
pub record WithinLimits (d : Design) (w : Network) : Type 0 where
  pub luts-within : length w.luts ≤ d.limit
  pub reads-within : (o : ℕ) → o < length w.nodes → read_count w o ≤ budget d d.bound o

-- the lines that offend: lut i stands i lines below the first, and the node of output o as far below the lut lines
pub data Offends (d : Design) (w : Network) : ℕ → Type 0 where
  lut_over : (i : ℕ) → d.limit ≤ i → i < length w.luts → Offends d w (i + first_lut)
  node_over : (o : ℕ)
      → o < length w.nodes
      → budget d d.bound o < read_count w o
      → Offends d w (length w.luts + first_lut + o)

pub record FirstOffending (d : Design) (w : Network) (l : ℕ) : Type 0 where
  pub offends : Offends d w l
  pub first : (m : ℕ) → Offends d w m → l ≤ m

-- the network has the design's value in every output on every row
pub record Computes (d : Design) (w : Network) : Type 0 where
  pub agrees : (o r : ℕ) → o < length d.outputs → r < 2 ^ length d.inputs → network_on d w o r ≡ output_on d o r

-- output o is the lowest that differs, and r its lowest row
pub record LowestDifference (d : Design) (w : Network) (o r : ℕ) : Type 0 where
  pub is_output : o < length d.outputs
  pub is_row : r < 2 ^ length d.inputs
  pub apart : network_on d w o r ≡ output_on d o r → ⊥
  pub rows_below : (q : ℕ) → q < r → network_on d w o q ≡ output_on d o q
  pub outputs_below : (p q : ℕ) → p < o → q < 2 ^ length d.inputs → network_on d w p q ≡ output_on d p q

-- t is a network sheet that passes 10 and 11 beside d, and says w
pub record Drawn (d : Design) (t : List ℕ) (w : Network) : Type 0 where
  pub is_read : read_network d t ≡ network w
  pub passes : offending d w ≡ none
