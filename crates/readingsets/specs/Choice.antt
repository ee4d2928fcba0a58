-- A core beside given tables: for each output a row, the open cells and the given tables that it reads (crate subproblems), and
-- for each vertex a code of the open cells. Rows are chosen output after output, in any order of the outputs. Assumes nothing.
use Rattle.std.specs.Prelude.{◌≡◌, ℕ, suc, ◌+◌, ◌-◌, ◌*◌, ◌/◌, ◌%◌, ◌^◌, ◌<◌, ◌≤◌, min, Bool, true, false, List, length, ◌≢◌, bit_and, bit_xor, ⊤, Option, MatchOption}
use Rattle.limits.specs.Limits.{search_outputs, max_cells, max_codes}
use Rattle.bits.specs.Digit.{on}
use Rattle.bits.specs.Count.{count}
use Rattle.cells.specs.Reorder.{InOrder}
use Rattle.problem.specs.Problem.{item}
use Rattle.relation.specs.Relation.{NoneLeft}
use Rattle.subproblems.specs.Subproblem.{open_of, given_of, Answers}

-- given tables that there may be, and digits of a row
abbrev pub max_given : ℕ
max_given = 10

abbrev pub row_digits : ℕ
row_digits = max_cells + max_given

-- a row among u open cells and g given tables reads as many as the budget allows
pub record RowFits (budget u g row : ℕ) : Type 0 where
  pub cells_low : open_of row < 2 ^ u
  pub tables_low : given_of row < 2 ^ g
  pub full : count (on row) row_digits ≡ min budget (u + g)

-- the row of number r: its open cells are the lowest u digits of r, and its given tables the digits above
abbrev pub numbered : ℕ → ℕ → ℕ
numbered u r = r / 2 ^ u * max_codes + r % 2 ^ u

-- the number of the row tried at place i of so many: i, or from the highest number down
abbrev pub turned : Bool → ℕ → ℕ → ℕ
turned false end i = i
turned true end i = end - 1 - i

-- the first m outputs as a set
abbrev pub first_outputs : ℕ → ℕ
first_outputs m = 2 ^ m - 1

-- a core with rows R and codes F: it answers the subproblem about the first m outputs, and is 0 at vertex 0
pub record Core (cl given budgets : List ℕ) (kn val v m u g : ℕ) (R F : ℕ → ℕ) : Type 0 where
  pub answers : Answers cl given kn val v (first_outputs m) R F
  pub rows : (o : ℕ) → o < m → RowFits (item budgets o) u g (R o)
  pub zero : F 0 ≡ 0

-- the outputs of the set done, some of the first m, have rows that fit
pub record Rows (budgets : List ℕ) (m u g done : ℕ) (rows : List ℕ) : Type 0 where
  pub long : length rows ≡ search_outputs
  pub few : (o : ℕ) → on done o ≡ true → o < m
  pub fit : (o : ℕ) → on done o ≡ true → RowFits (item budgets o) u g (item rows o)

-- same has only cells that the outputs of the set done read like the next cell; both may change places: they are open cells,
-- and none is cell 0 where that may have known digits
pub record ReadAlike (kn u done : ℕ) (rows : List ℕ) (same : ℕ) : Type 0 where
  pub within : (i : ℕ) → on same i ≡ true → suc i < u
  pub unknown : on same 0 ≡ true → kn ≡ 0
  pub alike : (i p : ℕ) → on same i ≡ true → on done p ≡ true → on (item rows p) i ≡ on (item rows p) (suc i)

-- a core was found
pub record Found (cl given budgets : List ℕ) (kn val v m u g : ℕ) (rows codes : List ℕ) : Type 0 where
  pub fit : Rows budgets m u g (first_outputs m) rows
  pub answers : Answers cl given kn val v (first_outputs m) (item rows) (item codes)

-- the outputs of the set done have these rows
abbrev pub Agree : ℕ → List ℕ → (ℕ → ℕ) → Type 0
Agree done rows R = (p : ℕ) → on done p ≡ true → R p ≡ item rows p

-- no core has the rows of the outputs of the set done
pub record Lost (cl given budgets : List ℕ) (kn val v m u g done : ℕ) (rows : List ℕ) : Type 0 where
  pub none : (R F : ℕ → ℕ) → Core cl given budgets kn val v m u g R F → Agree done rows R → ⊥

abbrev pub Chosen : List ℕ → List ℕ → List ℕ → ℕ → ℕ → ℕ → ℕ → ℕ → ℕ → ℕ → List ℕ → Bool → List ℕ → List ℕ → Type 0
Chosen cl given budgets kn val v m u g done rows true rows' codes = Found cl given budgets kn val v m u g rows' codes
Chosen cl given budgets kn val v m u g done rows false rows' codes = Lost cl given budgets kn val v m u g done rows

-- the digits where the open cells of a row have one that comes after an equal one that they do not have
abbrev pub disorder : ℕ → ℕ → ℕ
disorder f same = bit_and (bit_and (f / 2) (2 ^ 8 - 1 - f)) same

-- the cells of same that a row too reads like the next cell
abbrev pub still_alike : ℕ → ℕ → ℕ
still_alike same row = bit_and same (2 ^ 8 - 1 - bit_xor (open_of row) (open_of row / 2))

-- a row is refused only where it reads another number of tables than wanted, or is out of order
pub record Suits (row want same : ℕ) (ok : Bool) : Type 0 where
  pub right : ok ≡ true → count (on row) row_digits ≡ want
  pub wrong : ok ≡ false → count (on row) row_digits ≡ want → disorder (open_of row) same ≢ 0

-- r is one of the first m outputs that is not in the set done, or there is none since all are
abbrev pub Next : ℕ → ℕ → Option ℕ → Type 0
Next m done r = MatchOption r ((o : ℕ) → o < m → on done o ≡ true) (λ o. (o < m) × (on done o ≡ false))

-- where r is the number of a row, that row reads as many tables as wanted, and its given tables leave no conflict of output n
abbrev pub Served : List ℕ → List ℕ → ℕ → ℕ → ℕ → ℕ → ℕ → Option ℕ → Type 0
Served cl given v u g n want r = MatchOption r ⊤ (λ r. (r < 2 ^ (u + g)) × (count (on (numbered u r)) row_digits ≡ want) × NoneLeft cl given (given_of (numbered u r)) n v)

-- the number of a row among u open cells
abbrev pub number_of : ℕ → ℕ → ℕ
number_of u row = open_of row + 2 ^ u * given_of row

-- no core whose row of output n is in order has one that is tried at a place before i
pub record Tried (cl given budgets : List ℕ) (kn val v m u g done : ℕ) (rows : List ℕ) (same n : ℕ) (down : Bool) (i : ℕ) : Type 0 where
  pub past : (R F : ℕ → ℕ) → Core cl given budgets kn val v m u g R F → Agree done rows R → InOrder same (open_of (R n))
      → i ≤ turned down (2 ^ (u + g)) (number_of u (R n))
