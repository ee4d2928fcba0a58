-- What is kept of the outputs of a problem, so that an answer for those kept is one for all: each output left out has to tell
-- apart no more than one kept, with the same budget, and takes its row. Assumes nothing.
use Rattle.std.specs.Prelude.{◌≡◌, List, ℕ, ◌≤◌, ◌<◌}
use Rattle.limits.specs.Limits.{search_outputs}
use Rattle.bits.specs.Filled.{Filled}
use Rattle.problem.specs.Problem.{item}
use Rattle.relation.specs.Relation.{Classes, Conflict}

-- n outputs with these labels and budgets stand for the m outputs of cl: output o of cl has to tell apart no more than output
-- item by o of them and has its budget, and each of them has to tell apart no more than some output of cl and has its budget
pub record StandFor (cl budgets : List ℕ) (v m : ℕ) (labels budgets' : List ℕ) (n : ℕ) (by : List ℕ) : Type 0 where
  pub classes : Classes labels
  pub few : n ≤ search_outputs
  pub below : (o : ℕ) → o < m → item by o < n
  pub inside : (o x y : ℕ) → o < m → x < v → y < v → Conflict cl o x y → Conflict labels (item by o) x y
  pub budget : (o : ℕ) → o < m → item budgets o ≡ item budgets' (item by o)
  pub from : (i : ℕ) → i < n → (o : ℕ) × (o < m) × ((x y : ℕ) → x < v → y < v → Conflict labels i x y → Conflict cl o x y) × (item budgets' i ≡ item budgets o)

-- the first m rows of r are those of the outputs kept for them
abbrev pub Placed : List ℕ → List ℕ → ℕ → List ℕ → Type 0
Placed rows by m r = Filled search_outputs (λ o. item rows (item by o)) m r
