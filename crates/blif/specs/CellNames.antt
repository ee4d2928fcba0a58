-- The names of cells that follow one another. No contract cites them. Assumes nothing.
use Rattle.std.specs.Prelude.{List, [], ◌∷◌, ℕ, zero, suc}
use Rattle.names.specs.Name.{Name}
use Rattle.blif.specs.Printer.{cell_name}

-- of k cells, the first of which is cell i
unfoldable pub cell_names : ℕ → ℕ → List Name
cell_names i zero = []
cell_names i (suc k) = cell_name i ∷ cell_names (suc i) k
