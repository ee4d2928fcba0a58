-- Sets of outputs as numbers: output o is in the set whose digit o is 1. The members in order, how many there are, and which of two
-- sets of equally many outputs comes first (clause 11.7). Assumes nothing.
use Rattle.std.specs.Prelude.{◌≡◌, true, false, List, [], ◌∷◌, ℕ, zero, suc, ◌^◌, ◌≤◌, ◌<◌, length, get_or}
use Rattle.bits.specs.Logic.{pick}
use Rattle.bits.specs.Digit.{on}

-- the elements of a list whose places are in the set s, where the first has the place i
unfoldable pub selected : {A : Type 0} → ℕ → ℕ → List A → List A
selected s i [] = []
selected s i (a ∷ l) =
    let others = selected s (suc i) l in
    pick (on s i) (a ∷ others) others

-- the members of s from i on, among k numbers, in order
unfoldable pub members : ℕ → ℕ → ℕ → List ℕ
members s i zero = []
members s i (suc k) =
    let others = members s (suc i) k in
    pick (on s i) (i ∷ others) others

-- how many of the first m outputs are in the set, and member j of it
abbrev pub size : ℕ → ℕ → ℕ
size m s = length (members s 0 m)

abbrev pub member_at : ℕ → ℕ → ℕ → ℕ
member_at m s j = get_or (members s 0 m) j 0

-- a set of some of m outputs, not the empty one
pub record SomeOf (m s : ℕ) : Type 0 where
  pub inside : s < 2 ^ m
  pub filled : 1 ≤ s

-- the lowest output that is in one of the two sets alone is in s: of two sets of equal number, s comes first
pub record Earlier (s t : ℕ) : Type 0 where
  pub place : ℕ
  pub in_first : on s place ≡ true
  pub not_in_second : on t place ≡ false
  pub same_below : (o : ℕ) → o < place → on s o ≡ on t o
