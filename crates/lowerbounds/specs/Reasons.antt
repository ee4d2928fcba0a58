-- How many blocks a class cannot do without. Class l of output o holds g classes of one part of output q. Vertices of these have to differ
-- in what q reads; what o too reads of it shows in o's blocks, and the x cells that only q reads tell at most 2 ^ x of them
-- apart inside a block. So class l occurs in at least g / 2 ^ x blocks of o, rounded up. Assumes nothing.
use Rattle.std.specs.Prelude.{◌≡◌, List, ◌⊎◌, ℕ, ◌+◌, ◌-◌, ◌*◌, ◌/◌, ◌%◌, ◌^◌, ◌≤◌, ◌<◌, length}
use Rattle.std.specs.Int.Bits.{bit_and}
use Rattle.limits.specs.Limits.{max_vertices, label_count, max_cells}
use Rattle.bits.specs.Digit.{on}
use Rattle.bits.specs.Count.{count}
use Rattle.cells.specs.Lists.{All, Pairs}
use Rattle.problem.specs.Problem.{label_at, part_of, item}

-- g classes of one part of q occur in class l of o
abbrev pub Kinds : List ℕ → ℕ → ℕ → ℕ → ℕ → ℕ → Type 0
Kinds cl v o l q g = (p : ℕ) × (ys : List ℕ) × All (λ (x : ℕ). (x < v) × (label_at cl o x ≡ l) × (part_of cl q x ≡ p)) ys
    × Pairs (λ (x y : ℕ). label_at cl q x ≡ label_at cl q y → ⊥) ys × (length ys ≡ g)

-- 2 to the number of cells that q reads and o does not
abbrev pub apart : List ℕ → ℕ → ℕ → ℕ
apart rows o q = 2 ^ count (on (bit_and (item rows q) (2 ^ 8 - 1 - item rows o))) max_cells

-- why class l of o needs n blocks: none, or by the classes of some output q
abbrev pub Reason : List ℕ → List ℕ → ℕ → ℕ → ℕ → ℕ → ℕ → Type 0
Reason cl rows v j o l n = (n ≡ 0) ⊎ ((q : ℕ) × (g : ℕ) × (q < j) × Kinds cl v o l q g × ((n - 1) * apart rows o q < g))

-- the first n entries have reasons
pub record Based (cl rows : List ℕ) (v j n : ℕ) (base : List ℕ) : Type 0 where
  pub long : length base ≡ label_count
  pub reasons : (i : ℕ) → i < n → Reason cl rows v j (i / max_vertices) (i % max_vertices) (item base i)
  pub rest : (i : ℕ) → n ≤ i → item base i ≡ 0

-- what kinds answers for one class
pub record FewKinds (cl : List ℕ) (v o l q g : ℕ) : Type 0 where
  pub kinds : Kinds cl v o l q g
  pub few : g ≤ max_vertices

-- the blocks that hold g kinds, 2 ^ d to a block
abbrev pub blocks_for : ℕ → ℕ → ℕ
blocks_for g d = (g + 2 ^ d - 1) / 2 ^ d

-- of the first n classes of o each entry stays or is what its kinds say, and all other entries stay
pub record Raised (o d n : ℕ) (kinds before after : List ℕ) : Type 0 where
  pub long : length after ≡ length before
  pub own : (l : ℕ) → l < n
      → (item after (o * max_vertices + l) ≡ item before (o * max_vertices + l)) ⊎ (item after (o * max_vertices + l) ≡ blocks_for (item kinds l) d)
  pub others : (i : ℕ) → (i < o * max_vertices) ⊎ (o * max_vertices + n ≤ i) → item after i ≡ item before i
