-- Sets of cells as numbers, cell i being digit i: which sets suit an output, how two sets compare, and the first set that suits.
-- Assumes nothing.
use Rattle.std.specs.Prelude.{◌≡◌, List, ◌⊎◌, length}
use Prim.Native.Nat.{ℕ, ◌^◌, ◌≤◌, ◌<◌, Ordering}
use Rattle.std.specs.Int.Count.{ones}
use Rattle.limits.specs.Limits.{search_outputs}
use Rattle.bits.specs.Digit.{on}
use Rattle.bits.specs.Values.{values_upto}
use Rattle.order.specs.Total.{NotLess}
use Rattle.order.specs.Order.{table_order}
use Rattle.problem.specs.Problem.{item}
use Rattle.relation.specs.Relation.{NoneLeft}

-- the set f has at most budget cells, and they tell apart all that output o has to tell apart
pub record Suits (cl codes : List ℕ) (v o budget f : ℕ) : Type 0 where
  pub few : ones f ≤ budget
  pub none_left : NoneLeft cl codes f o v

-- how two sets of u cells compare, as their digits do; the greater one comes first
abbrev pub set_order : ℕ → ℕ → ℕ → Ordering
set_order u f g = table_order (values_upto (on f) u) (values_upto (on g) u)

-- best is the first of the sets below n that suit, and empty where none does
pub record Best (cl codes : List ℕ) (v o u budget n best : ℕ) : Type 0 where
  pub low : best < 2 ^ u
  pub empty_or_suits : (best ≡ 0) ⊎ Suits cl codes v o budget best
  pub suits : (f : ℕ) → f < n → Suits cl codes v o budget f → Suits cl codes v o budget best
  pub first : (f : ℕ) → f < n → Suits cl codes v o budget f → NotLess (set_order u best f)

-- r has the first sets that suit for the first n outputs
pub record FirstRows (cl codes budgets : List ℕ) (v u n : ℕ) (r : List ℕ) : Type 0 where
  pub long : length r ≡ search_outputs
  pub done : (o : ℕ) → o < n → Best cl codes v o u (item budgets o) (2 ^ u) (item r o)
