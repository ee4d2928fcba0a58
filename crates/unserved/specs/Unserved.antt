-- The first set of outputs that no cells within the limit serve: sets of fewer outputs come before those of more, and of equal number
-- the earlier one. Assumes nothing.
use Rattle.std.specs.Prelude.{◌≡◌, List, ℕ, ◌^◌, ◌-◌, ◌≤◌, ◌<◌, length}
use Rattle.cells.specs.Core.{Cell, Serves, Differ}
use Rattle.problem.specs.Problem.{label_at, item}
use Rattle.subsets.specs.Subset.{size, member_at, SomeOf, Earlier}

-- a core serves the outputs of the set s alone, of m outputs with these class labels and budgets; they are numbered anew, in order
abbrev pub ServesSet : List ℕ → List ℕ → ℕ → ℕ → ℕ → List Cell → Type 0
ServesSet cl budgets v m s l =
    Serves v (size m s) (Differ (λ j x. label_at cl (member_at m s j) x)) (λ j. item budgets (member_at m s j)) l

-- some core within the limit serves the set
pub record Fits (cl budgets : List ℕ) (v m limit s : ℕ) : Type 0 where
  pub cells : List Cell
  pub few : length cells ≤ limit
  pub serves : ServesSet cl budgets v m s cells

-- none does
pub record Lacking (cl budgets : List ℕ) (v m limit s : ℕ) : Type 0 where
  pub none : (l : List Cell) → ServesSet cl budgets v m s l → limit < length l

-- s is the first set that none serves
pub record FirstLacking (cl budgets : List ℕ) (v m limit s : ℕ) : Type 0 where
  pub outputs : SomeOf m s
  pub lacking : Lacking cl budgets v m limit s
  pub smaller : (t : ℕ) → SomeOf m t → size m t < size m s → Fits cl budgets v m limit t
  pub earlier : (t : ℕ) → SomeOf m t → size m t ≡ size m s → Earlier t s → Fits cl budgets v m limit t

-- the set of all m outputs
abbrev pub every_output : ℕ → ℕ
every_output m = 2 ^ m - 1

-- What `unserved` answers: 0 where all outputs together are served, else the first set that is not.
pub record Answered (cl budgets : List ℕ) (v m limit s : ℕ) : Type 0 where
  pub served : s ≡ 0 → Fits cl budgets v m limit (every_output m)
  pub refused : (s ≡ 0 → ⊥) → Lacking cl budgets v m limit (every_output m)
  pub first : (s ≡ 0 → ⊥) → FirstLacking cl budgets v m limit s
