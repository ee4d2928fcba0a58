-- A core as a network sheet shows it: the tables of its cells and what an output reads of them, as lists of digits in the order
-- of the cells. Assumes nothing.
use Rattle.std.specs.Prelude.{Bool, List, [], ◌∷◌, ℕ}
use Rattle.bits.specs.Values.{values_upto}
use Rattle.cells.specs.Core.{Cell}

-- the table of each cell at v vertices
unfoldable pub tables_of : ℕ → List Cell → List (List Bool)
tables_of v [] = []
tables_of v (c ∷ l) = values_upto c.table v ∷ tables_of v l

-- whether output o reads it, of each cell
unfoldable pub reads_of : ℕ → List Cell → List Bool
reads_of o [] = []
reads_of o (c ∷ l) = c.readers o ∷ reads_of o l
