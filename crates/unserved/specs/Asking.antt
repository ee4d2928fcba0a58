-- What the private functions answer: of one set, and of the sets of one number. Assumes nothing.
use Rattle.std.specs.Prelude.{◌≡◌, Bool, true, false, List, ℕ, ◌^◌, ◌≤◌, ◌<◌, length}
use Rattle.std.specs.Int.Bits.{bit_xor}
use Rattle.limits.specs.Limits.{search_outputs}
use Rattle.cells.specs.Core.{Cell, Serves}
use Rattle.problem.specs.Problem.{label_at, item}
use Rattle.relation.specs.Relation.{Classes, Conflict}
use Rattle.subsets.specs.Subset.{size, member_at, SomeOf, Earlier}
use Rattle.subsets.specs.Rank.{rank}
use Rattle.unserved.specs.Unserved.{ServesSet, Fits, Lacking}

-- every set of fewer than k outputs is served
pub record FitBelow (cl budgets : List ℕ) (v m limit k : ℕ) : Type 0 where
  pub fits : (t : ℕ) → SomeOf m t → size m t < k → Fits cl budgets v m limit t

-- ---- one set
-- the n outputs with these labels and budgets are the members of s
pub record OfMembers (cl budgets : List ℕ) (v m s n : ℕ) (labels taken : List ℕ) : Type 0 where
  pub count : n ≡ size m s
  pub label : (j x : ℕ) → j < n → x < v → label_at labels j x ≡ label_at cl (member_at m s j) x
  pub budget : (j : ℕ) → j < n → item taken j ≡ item budgets (member_at m s j)

-- The n outputs with these labels and budgets stand for the members of s: as many cells serve them as serve s. Where they are fewer
-- than the members, s is served with the sets of fewer outputs.
pub record Stand (cl budgets : List ℕ) (v m s : ℕ) (labels budgets' : List ℕ) (n : ℕ) : Type 0 where
  pub classes : Classes labels
  pub few : n ≤ search_outputs
  pub gives : (l : List Cell) → Serves v n (Conflict labels) (item budgets') l → (k : List Cell) × (length k ≡ length l) × ServesSet cl budgets v m s k
  pub takes : (l : List Cell) → ServesSet cl budgets v m s l → (k : List Cell) × (length k ≡ length l) × Serves v n (Conflict labels) (item budgets') k
  pub fewer : (limit : ℕ) → s < 2 ^ m → n < size m s → FitBelow cl budgets v m limit (size m s) → Fits cl budgets v m limit s

-- the answer to one question: some core within the limit serves n outputs with these labels and budgets, or none does
pub record Decided (labels budgets : List ℕ) (v n limit : ℕ) (answer : Bool) : Type 0 where
  pub some : answer ≡ true → (k : List Cell) × (length k ≤ limit) × Serves v n (Conflict labels) (item budgets) k
  pub none : answer ≡ false → (k : List Cell) → Serves v n (Conflict labels) (item budgets) k → limit < length k

-- ---- the sets of one number
-- every set of k outputs with a rank of r or more is served
pub record FitFrom (cl budgets : List ℕ) (v m limit k r : ℕ) : Type 0 where
  pub fits : (t : ℕ) → SomeOf m t → size m t ≡ k → r ≤ rank m t → Fits cl budgets v m limit t

-- s is the first of the sets of k outputs that is not served
pub record FirstOf (cl budgets : List ℕ) (v m limit k s : ℕ) : Type 0 where
  pub outputs : SomeOf m s
  pub count : size m s ≡ k
  pub lacking : Lacking cl budgets v m limit s
  pub earlier : (t : ℕ) → SomeOf m t → size m t ≡ k → Earlier t s → Fits cl budgets v m limit t

-- the answer for the sets of k outputs: 0 where all are served, else the first that is not
pub record Sifted (cl budgets : List ℕ) (v m limit k s : ℕ) : Type 0 where
  pub all : s ≡ 0 → FitFrom cl budgets v m limit k 0
  pub first : (s ≡ 0 → ⊥) → FirstOf cl budgets v m limit k s

-- ---- a smaller set
-- the set s, which has output k, without it
unfoldable pub without : ℕ → ℕ → ℕ
without s k = bit_xor s (2 ^ k)
