-- The question of the general search, in words of cells: is there a core of so many open cells beside given tables, the first
-- open cell having its known digits. Who reads the given tables is part of the answer. Assumes nothing.
use Rattle.std.specs.Prelude.{◌≡◌, Bool, true, false, List, [], ◌∷◌, ◌++◌, ◌⊎◌, ℕ, suc, ◌<◌, length}
use Rattle.limits.specs.Limits.{max_cells}
use Rattle.bits.specs.Digit.{on}
use Rattle.cells.specs.Core.{Cell, Serves, core_of}
use Rattle.cells.specs.Codes.{code_of}
use Rattle.cells.specs.FullSize.{read_by}
use Rattle.problem.specs.Problem.{item}
use Rattle.relation.specs.Relation.{Conflict}
use Rattle.subproblems.specs.Subproblem.{open_of}
use Rattle.readingsets.specs.Choice.{RowFits}

-- g cells with the given tables: cell i has at vertex x digit i of item given x
pub record Tables (given : List ℕ) (v g : ℕ) (l : List Cell) : Type 0 where
  pub long : length l ≡ g
  pub digits : (i x : ℕ) → i < g → x < v → on (code_of l x) i ≡ on (item given x) i

-- the first cell, where there is one, has its known digits: val says what it is at the vertices of kn
abbrev pub Known : ℕ → ℕ → ℕ → List Cell → Type 0
Known kn val v [] = Unit {0}
Known kn val v (c ∷ l) = (x : ℕ) → x < v → on kn x ≡ true → c.table x ≡ on val x

-- Nothing is known, or there is an open cell and it is known to be 0 at vertex 0. The complement of a table serves as well as
-- the table, so every question can be put in this way.
abbrev pub Begins : ℕ → ℕ → ℕ → Type 0
Begins kn val u = (kn ≡ 0) ⊎ ((0 < u) × (on kn 0 ≡ true) × (on val 0 ≡ false))

-- no u open cells serve beside the given tables, whoever reads these
pub record Lacks (cl given budgets : List ℕ) (kn val v m u g : ℕ) : Type 0 where
  pub none : (l ts : List Cell) → length l ≡ u → Tables given v g ts → Known kn val v l → Serves v m (Conflict cl) (item budgets) (l ++ ts) → ⊥

-- u open cells, and the cells of ts, as rows and codes say
abbrev pub open_cells : ℕ → List ℕ → List ℕ → List Cell
open_cells u rows codes = core_of u (λ o. open_of (item rows o)) (item codes)

abbrev pub given_cells : List ℕ → List Cell → List Cell
given_cells rows ts = read_by max_cells (item rows) ts

-- rows and codes are u open cells that serve beside the given tables; each output reads as many tables as it may
pub record Has (cl given budgets : List ℕ) (kn val v m u g : ℕ) (rows codes : List ℕ) : Type 0 where
  pub fit : (o : ℕ) → o < m → RowFits (item budgets o) u g (item rows o)
  pub known : Known kn val v (open_cells u rows codes)
  pub serves : (ts : List Cell) → Tables given v g ts → Serves v m (Conflict cl) (item budgets) (open_cells u rows codes ++ given_cells rows ts)

-- the answer: such cells, or there are none
abbrev pub Sought : List ℕ → List ℕ → List ℕ → ℕ → ℕ → ℕ → ℕ → ℕ → ℕ → Bool → List ℕ → List ℕ → Type 0
Sought cl given budgets kn val v m u g true rows codes = Has cl given budgets kn val v m u g rows codes
Sought cl given budgets kn val v m u g false rows codes = Lacks cl given budgets kn val v m u g

-- Where some of the first m outputs, those not in the set fits, have no budget at all, nothing serves them: the answer is such
-- cells and every output has a budget, or that every output has one and there are such cells is not so.
abbrev pub AllFit : ℕ → ℕ → Type 0
AllFit fits m = (o : ℕ) → o < m → on fits o ≡ true

abbrev pub SoughtWhere : ℕ → List ℕ → List ℕ → List ℕ → ℕ → ℕ → ℕ → ℕ → ℕ → ℕ → Bool → List ℕ → List ℕ → Type 0
SoughtWhere fits cl given budgets kn val v m u g true rows codes = AllFit fits m × Has cl given budgets kn val v m u g rows codes
SoughtWhere fits cl given budgets kn val v m u g false rows codes = AllFit fits m → Lacks cl given budgets kn val v m u g

-- the rounds that may give up a complete choice
abbrev pub round_count : ℕ
round_count = 7

-- each cell of same and the one after it are open cells, and cell 0 is in same only where nothing is known
pub record Places (kn u same : ℕ) : Type 0 where
  pub within : (i : ℕ) → on same i ≡ true → suc i < u
  pub unknown : on same 0 ≡ true → kn ≡ 0
