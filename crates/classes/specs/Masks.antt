-- Which digits of a row are those of bound inputs, and which those of free inputs. Assumes nothing.
use Rattle.std.specs.Prelude.{List, ℕ, ◌-◌}
use Rattle.names.specs.Name.{Name}
use Rattle.classes.specs.Columns.{join_row, vertex_count, free_count}

-- the row of the last vertex: every bound input is 1, every free one 0
abbrev pub bound_digits : List Name → List Name → ℕ
bound_digits ns bs = join_row ns bs (vertex_count bs - 1) 0

-- the row of the last free row: every free input is 1, every bound one 0
abbrev pub free_digits : List Name → List Name → ℕ
free_digits ns bs = join_row ns bs 0 (free_count ns bs - 1)
