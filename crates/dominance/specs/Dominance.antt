-- How the outputs kept are chosen, as the contracts of the private functions say it: an output is dominated by another one that has
-- to tell apart no less and has its budget, and the labels and budgets of those kept are taken over. Assumes nothing.
use Rattle.std.specs.Prelude.{◌≡◌, List, ℕ, ◌/◌, ◌%◌, ◌≤◌, ◌<◌, length}
use Rattle.limits.specs.Limits.{search_outputs, max_vertices, label_count}
use Rattle.bits.specs.Filled.{Filled}
use Rattle.problem.specs.Problem.{label_at, item}
use Rattle.relation.specs.Relation.{Inside}
use Rattle.sorting.specs.Order.{Indices}

-- output q tells apart all that output o has to, and has its budget
pub record Dominates (cl budgets : List ℕ) (v o q : ℕ) : Type 0 where
  pub inside : Inside cl o q v
  pub budget : item budgets o ≡ item budgets q

-- k is the place of one of the first n outputs of from that dominates output o
pub record Dominator (cl budgets : List ℕ) (v : ℕ) (from : List ℕ) (n o k : ℕ) : Type 0 where
  pub under : k < n
  pub dominates : Dominates cl budgets v o (item from k)

-- the first n outputs of from are some of the m outputs, and each of the first i outputs of order is dominated by one of them
pub record Choosing (cl budgets : List ℕ) (v m : ℕ) (order : List ℕ) (i n : ℕ) (from by : List ℕ) : Type 0 where
  pub indices : Indices from
  pub long : length by ≡ search_outputs
  pub few : n ≤ i
  pub among : (k : ℕ) → k < n → item from k < m
  pub below : (j : ℕ) → j < i → item by (item order j) < n
  pub dominated : (j : ℕ) → j < i → Dominates cl budgets v (item order j) (item from (item by (item order j)))

-- the same of all m outputs
pub record Chosen (cl budgets : List ℕ) (v m n : ℕ) (from by : List ℕ) : Type 0 where
  pub indices : Indices from
  pub few : n ≤ search_outputs
  pub among : (k : ℕ) → k < n → item from k < m
  pub below : (o : ℕ) → o < m → item by o < n
  pub dominated : (o : ℕ) → o < m → Dominates cl budgets v o (item from (item by o))

-- the first n numbers of r are those of the outputs of from
abbrev pub Picked : List ℕ → List ℕ → ℕ → List ℕ → Type 0
Picked l from n r = Filled search_outputs (λ i. item l (item from i)) n r

-- the first n labels are those of the outputs of from
abbrev pub Taken : List ℕ → List ℕ → ℕ → List ℕ → Type 0
Taken cl from n r = Filled label_count (λ i. label_at cl (item from (i / max_vertices)) (i % max_vertices)) n r
