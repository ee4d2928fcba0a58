-- Sets of numbers below 64 as the digits of one number: one element more, one less. Assumes nothing.
use Rattle.std.specs.Prelude.{◌≡◌, true, ℕ, ◌<◌, eqb}
use Rattle.bits.specs.Logic.{orb}
use Rattle.bits.specs.Digit.{on}

-- the numbers that a set has room for: a word has a digit for each
abbrev pub set_room : ℕ
set_room = 64

-- r is s with k
abbrev pub With : ℕ → ℕ → ℕ → Type 0
With s k r = (i : ℕ) → on r i ≡ orb (on s i) (eqb i k)

-- r is s without k
pub record Without (s k r : ℕ) : Type 0 where
  pub others : (i : ℕ) → i < set_room → (i ≡ k → ⊥) → on r i ≡ on s i
  pub less : on s k ≡ true → r < s
