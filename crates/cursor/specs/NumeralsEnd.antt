-- Where the digits that start at a place end. Assumes nothing.
use Rattle.std.specs.Prelude.{◌≡◌, true, false, List, ℕ, ◌≤◌, ◌<◌, length, get_or}
use Rattle.text.specs.Number.{numeral}

-- the bytes from a place up to e are digits
pub record Numerals (s : List ℕ) (at e : ℕ) : Type 0 where
  pub after-start : at ≤ e
  pub inside : e ≤ length s
  pub each : (k : ℕ) → k < e → at ≤ k → numeral (get_or s k 0) ≡ true

-- and no digit stands at e
pub record NumeralsEnd (s : List ℕ) (at e : ℕ) : Type 0 where
  pub numerals : Numerals s at e
  pub stops : e < length s → numeral (get_or s e 0) ≡ false
