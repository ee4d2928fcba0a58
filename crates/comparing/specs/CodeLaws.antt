-- The code of a vertex in the shared tables of a mask, with one table more. Assumes nothing.
use Rattle.std.specs.Prelude.{◌≡◌, Bool, true, false, List, ℕ, ◌+◌, ◌*◌, ◌≤◌, ◌<◌, get_or}
use Rattle.bits.specs.Logic.{bit}
use Rattle.bits.specs.Digit.{on}
use Rattle.limits.specs.Limits.{max_cells, max_codes}
use Rattle.network.specs.NumbersLaws as numbers
use Rattle.comparing.specs.Code.{one_at, code_at}

module _ (t lutat : List ℕ) (m x : ℕ) where
  abbrev value : ℕ → Bool
  value i = one_at t (get_or lutat i 0 + x)

  pub code_none : 0 ≡ code_at t lutat m x 0
  unfolding code_at
  code_none = numbers.code_none value m

  pub code_with : (u c v : ℕ) → c ≡ code_at t lutat m x u → on m u ≡ true → v ≡ bit (value u) → 2 * c + v ≡ code_at t lutat m x (u + 1)
  unfolding code_at
  code_with = numbers.code_hit value m

  pub code_without : (u c : ℕ) → c ≡ code_at t lutat m x u → on m u ≡ false → c ≡ code_at t lutat m x (u + 1)
  unfolding code_at
  code_without = numbers.code_miss value m

  pub code_small : (u : ℕ) → u ≤ max_cells → code_at t lutat m x u < max_codes
  unfolding code_at
  code_small = numbers.code_small value m
