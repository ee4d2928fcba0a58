-- What the first core is: its tables come first of all cores of as few cells, and with these tables what each output reads comes first.
-- Assumes nothing.
use Rattle.std.specs.Prelude.{◌≡◌, Bool, true, List, ℕ, ◌≤◌, ◌<◌, length}
use Rattle.order.specs.Total.{NotLess}
use Rattle.cells.specs.Core.{Cell, Serves, Differ, ZeroFirst, Answer, core_of}
use Rattle.cells.specs.Written.{tables_of, reads_of}
use Rattle.problem.specs.Problem.{label_at, item}
use Rattle.order.specs.Order.{table_order, tables_order}

-- The first core: of all cores of as many cells that serve and are 0 at vertex 0 its tables come first, as lists of digits, and of
-- all that have these tables and serve each output reads what comes first: of two sets of cells the one that has the first cell in
-- which they differ.
pub record FirstCore (v m : ℕ) (Conflict : ℕ → ℕ → ℕ → Type 0) (budget : ℕ → ℕ) (core : List Cell) : Type 0 where
  pub tables : (l : List Cell) → length l ≡ length core → Serves v m Conflict budget l → ZeroFirst l → NotLess (tables_order (tables_of v l) (tables_of v core))
  pub reads : (l : List Cell) (o : ℕ) → o < m → Serves v m Conflict budget l → tables_of v l ≡ tables_of v core → NotLess (table_order (reads_of o core) (reads_of o l))

-- what `first` answers: Theorem B, and what is found is the first
pub record Answered (cl budgets : List ℕ) (v m limit : ℕ) (found : Bool) (u : ℕ) (rows codes : List ℕ) : Type 0 where
  pub answer : Answer v m (Differ (label_at cl)) (item budgets) limit found (core_of u (item rows) (item codes))
  pub few : u ≤ limit
  pub first : found ≡ true → FirstCore v m (Differ (label_at cl)) (item budgets) (core_of u (item rows) (item codes))
