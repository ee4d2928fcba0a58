-- A whole truth table of up to ten inputs in sixteen words, as definitions: row r is digit r % 64 of word r / 64.
-- Assumes nothing.
use Rattle.std.specs.Prelude.{◌≡◌, Bool, List, ℕ, ◌+◌, ◌*◌, ◌/◌, ◌%◌, ◌<◌, get_or}
use Rattle.limits.specs.Limits.{max_rows}
use Rattle.bits.specs.Digit.{on}

-- the value of the table on row r
unfoldable pub row_on : List ℕ → ℕ → Bool
row_on ws r = on (get_or ws (r / 64) 0) (r % 64)

-- the table has the values of f, on all rows
pub record Rowwise (f : ℕ → Bool) (ws : List ℕ) : Type 0 where
  pub each : (r : ℕ) → r < max_rows → row_on ws r ≡ f r

-- x has the values of f on the 64 rows of word w
pub record WordOf (f : ℕ → Bool) (w x : ℕ) : Type 0 where
  pub each : (k : ℕ) → k < 64 → on x k ≡ f (w * 64 + k)
