-- An array that a loop fills from its first number on. Assumes nothing.
use Rattle.std.specs.Prelude.{◌≡◌, List, ℕ, ◌<◌, length, get_or}

-- r has size numbers, and the first n are those that f gives
pub record Filled (size : ℕ) (f : ℕ → ℕ) (n : ℕ) (r : List ℕ) : Type 0 where
  pub long : length r ≡ size
  pub done : (x : ℕ) → x < n → get_or r x 0 ≡ f x
