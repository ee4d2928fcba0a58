-- Lists of tables: those of cells in codes, and the set of those that serve, of which the first is sought. What the search for it
-- holds while it asks for one digit after another. Assumes nothing.
use Rattle.std.specs.Prelude.{◌≡◌, Bool, true, false, List, ℕ, ◌≤◌, ◌<◌, length}
use Rattle.limits.specs.Limits.{max_vertices}
use Rattle.bits.specs.Digit.{on}
use Rattle.cells.specs.Core.{Cell, Serves, ZeroFirst, core_of}
use Rattle.cells.specs.Written.{tables_of}
use Rattle.order.specs.Tables.{Shaped}
use Rattle.order.specs.LeastTables.{UptoTables, Agrees}
use Rattle.problem.specs.Problem.{item}
use Rattle.relation.specs.Relation.{Conflict}
use Rattle.cache.specs.Cache.{Honest}
use Rattle.witness.specs.Witness.{Witness}

-- the tables of the u cells in codes; who reads them does not matter
abbrev pub shown : ℕ → ℕ → List ℕ → List (List Bool)
shown v u codes = tables_of v (core_of u (λ o. 0) (item codes))

-- ts are the tables of u cells that serve, each 0 at vertex 0
pub record Drawn (cl budgets : List ℕ) (v m u : ℕ) (ts : List (List Bool)) : Type 0 where
  pub cells : List Cell
  pub counted : length cells ≡ u
  pub serves : Serves v m (Conflict cl) (item budgets) cells
  pub zero : ZeroFirst cells
  pub tables : tables_of v cells ≡ ts

-- the cells in codes serve, and none that serve have tables that come before theirs in the first i tables and the first x digits of
-- the next one
pub record Lowest (cl budgets : List ℕ) (v m u i x : ℕ) (codes : List ℕ) : Type 0 where
  pub witness : Witness cl budgets v m u codes
  pub least : UptoTables (Drawn cl budgets v m u) v u i x (shown v u codes)

-- kn has the vertices up to x
pub record Upto (x kn : ℕ) : Type 0 where
  pub has : (y : ℕ) → y ≤ x → on kn y ≡ true
  pub no_more : (y : ℕ) → on kn y ≡ true → y ≤ x

-- given has at the first v vertices the cells of codes before i
pub record Stands (codes : List ℕ) (i v : ℕ) (given : List ℕ) : Type 0 where
  pub long : length given ≡ max_vertices
  pub digits : (k x : ℕ) → k < i → x < v → on (item given x) k ≡ on (item codes x) k

-- a cache that is honest for some known digits of the first open cell, which is not known to be 1 at vertex 0
pub record Remembers (cl given : List ℕ) (v : ℕ) (mem : List ℕ) : Type 0 where
  pub kn : ℕ
  pub val : ℕ
  pub free : on kn 0 ≡ true → on val 0 ≡ false
  pub honest : Honest cl given kn val v mem

-- The answer to the question about vertex x of table i: r are cells that serve, with the tables of codes before i, the digits of
-- codes in table i before x and 0 at x; or no cells that serve have such tables.
abbrev pub Replied : List ℕ → List ℕ → ℕ → ℕ → ℕ → List ℕ → ℕ → ℕ → Bool → List ℕ → Type 0
Replied cl budgets v m u codes i x true r = Witness cl budgets v m u r × Agrees i x (shown v u codes) (shown v u r)
Replied cl budgets v m u codes i x false r = (vs : List (List Bool)) → Shaped v u vs → Drawn cl budgets v m u vs → Agrees i x (shown v u codes) vs → ⊥
