-- Where a running row number starts, and which row it is at a free row. Assumes nothing.
use Rattle.std.specs.Prelude.{◌≡◌, List, ℕ, ◌≤◌, length}
use Rattle.limits.specs.Limits.{max_inputs}
use Rattle.names.specs.Name.{Name}
use Rattle.classes.specs.Columns.{join_row}
use Rattle.classes.specs.Masks.{bound_digits, free_digits}
use Rattle.classes.specs.Proper.{Parted}

-- start is the row of a vertex and of free row 0, for some inputs with these bound and these free digits
pub record VertexRow (start bound free : ℕ) : Type 0 where
  pub ns : List Name
  pub bs : List Name
  pub vertex : ℕ
  pub parted : Parted ns bs
  pub few_inputs : length ns ≤ max_inputs
  pub start_is : start ≡ join_row ns bs vertex 0
  pub bound_is : bound ≡ bound_digits ns bs
  pub free_is : free ≡ free_digits ns bs

-- the row, over all inputs, of that vertex and of free row z
abbrev pub row_at : {start bound free : ℕ} → VertexRow start bound free → ℕ → ℕ
row_at v z = join_row v.ns v.bs v.vertex z
