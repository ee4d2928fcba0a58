-- A fact about each number below a bound, had by trying them all: the test is computed once, and its truth says the fact of each
-- number. So the codes without a cell, as one number, are known by their digits. Assumes nothing.
use Rattle.std.specs.Prelude.{◌≡◌, Bool, true, not, ℕ, ◌<◌}
use Rattle.bits.specs.EveryLaws.{every_at, same_equal}
use Rattle.bits.specs.Every.{every, same}
use Rattle.limits.specs.Limits.{max_codes}
use Rattle.bits.specs.Digit.{on}

-- whether s has exactly the codes without cell i
unfoldable pub without_cell : ℕ → ℕ → Bool
without_cell s i = every (λ (k : ℕ). same (on s k) (not (on k i))) max_codes

pub without_cell_on : (s i : ℕ) → without_cell s i ≡ true → (k : ℕ) → k < 64 → on s k ≡ not (on k i)
unfolding without_cell
without_cell_on s i e k h = same_equal _ _ (every_at (λ (k : ℕ). same (on s k) (not (on k i))) 64 e k h)
