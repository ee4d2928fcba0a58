-- The tables of the cells being given, for each output the first set of cells that serves it: of two sets the one comes first
-- that has the first cell in which they differ. Assumes nothing.
use Rattle.std.specs.Prelude.{◌≡◌, List, ℕ, ◌^◌, ◌<◌, length}
use Rattle.order.specs.Total.{NotLess}
use Rattle.order.specs.Order.{table_order}
use Rattle.cells.specs.Core.{Cell, Serves, core_of}
use Rattle.cells.specs.Written.{tables_of, reads_of}
use Rattle.problem.specs.Problem.{item}
use Rattle.relation.specs.Relation.{Conflict}

-- where cells with the tables that codes give serve, the cells that r and codes give serve, and no output's set of cells comes
-- before the one that r has for it
pub record Picked (cl budgets : List ℕ) (v m u : ℕ) (codes r : List ℕ) : Type 0 where
  pub low : (o : ℕ) → o < m → item r o < 2 ^ u
  pub serves : (l : List Cell) → length l ≡ u → tables_of v l ≡ tables_of v (core_of u (item r) (item codes))
      → Serves v m (Conflict cl) (item budgets) l → Serves v m (Conflict cl) (item budgets) (core_of u (item r) (item codes))
  pub first : (l : List Cell) (o : ℕ) → o < m → length l ≡ u → tables_of v l ≡ tables_of v (core_of u (item r) (item codes))
      → Serves v m (Conflict cl) (item budgets) l → NotLess (table_order (reads_of o (core_of u (item r) (item codes))) (reads_of o l))
