-- What is used of rows and their parts: a row is a vertex and a free row, and the other way round; and a conflict shows at
-- some free row. Assumes nothing.
use Rattle.std.specs.Prelude.{◌≡◌, true, List, ℕ, ◌^◌, ◌<◌, length}
use Rattle.names.specs.Name.{Name}
use Rattle.sheet.specs.Examine.{Design}
use Rattle.classes.specs.Columns.{join_row, vertex_of, free_row_of, vertex_count, free_count, value_at, conflict}

-- a row of the inputs ns is a vertex of the bound inputs bs and a free row
pub record Parts (ns bs : List Name) : Type 0 where
  pub vertex_of_lem : (x y : ℕ) → x < vertex_count bs → y < free_count ns bs → vertex_of ns bs (join_row ns bs x y) ≡ x
  pub free_of : (x y : ℕ) → x < vertex_count bs → y < free_count ns bs → free_row_of ns bs (join_row ns bs x y) ≡ y
  pub inside : (x y : ℕ) → join_row ns bs x y < 2 ^ length ns
  pub join_of : (r : ℕ) → r < 2 ^ length ns → join_row ns bs (vertex_of ns bs r) (free_row_of ns bs r) ≡ r

-- where two columns conflict, and where they don't
pub record Columns (d : Design) : Type 0 where
  pub conflict_at : (o x y : ℕ) → conflict d d.bound o x y ≡ true → (z : ℕ) × (z < free_count d.inputs d.bound) × (value_at d d.bound o x z ≡ value_at d d.bound o y z → ⊥)
  pub agree_at : (o x y : ℕ) → (conflict d d.bound o x y ≡ true → ⊥) → (z : ℕ) → z < free_count d.inputs d.bound → value_at d d.bound o x z ≡ value_at d d.bound o y z
