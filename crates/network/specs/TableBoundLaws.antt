-- How large the tables of a network within its widths are: a node has no more inputs than a design may have, and so no more
-- digits than a design may have rows; a shared table has no more digits than there may be vertices. Assumes nothing.
use Rattle.std.specs.Prelude.{[], ℕ, ◌+◌, ◌^◌, ◌≤◌, ◌<◌, length, get_or}
use Rattle.std.proofs.Common.{arith, pow_mono}
use Rattle.limits.specs.Limits.{max_inputs, max_rows, max_vertices}
use Rattle.sheet.specs.Examine.{Design}
use Rattle.sheet.specs.WellFormed.{WellFormed}
use Rattle.classes.specs.Proper.{Proper}
use Rattle.classes.specs.ProperLaws.{proper_of}
use Rattle.classes.specs.Width.{budget, width}
use Rattle.classes.specs.VertexLaws.{width-most}
use Rattle.classes.specs.FreeLaws.{bound_and_free}
use Rattle.network.specs.Network.{Network}
use Rattle.network.specs.Parts.{free_of}
use Rattle.network.specs.NetworkFor.{NetworkFor, node_at}
use Rattle.network.specs.Answers.{WithinLimits, read_count}

pub node_narrow : (d : Design) (w : Network)
    → Proper d
    → WithinLimits d w
    → (o : ℕ)
    → o < length w.nodes
    → read_count w o + length (free_of d) ≤ max_inputs
unfolding budget
node_narrow d w p l o h =
    let reads : read_count w o ≤ width d d.bound o = l.reads-within o h in
    let few = width-most d d.bound o in
    let parts = bound_and_free d.inputs d.bound p.parted in
    omega (arith, p.few_inputs)

module _ (d : Design) (w : Network) (v : WellFormed d) where
  pub node_digits_few : NetworkFor d w → WithinLimits d w
      → (o : ℕ)
      → o < length w.nodes
      → length (node_at w.nodes o).digits ≤ max_rows
  node_digits_few f l o h =
      let a : 2 ^ (read_count w o + length (free_of d)) ≤ max_rows = pow_mono (node_narrow d w (proper_of d v) l o h) in
      let b = (f.node_fits o h).counted in
      omega arith

  pub lut_digits_few : NetworkFor d w → (i : ℕ) → i < length w.luts → length (get_or w.luts i []) ≤ max_vertices
  lut_digits_few f i h =
      let a : 2 ^ length d.bound ≤ max_vertices = pow_mono v.bound_right.few in
      let b = f.lut_digits i h in
      omega arith
