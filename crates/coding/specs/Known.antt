-- The codes that a vertex may have where digits of cell 0 are known: those with the known digit, or any where none is known at
-- the vertex. Assumes nothing.
use Rattle.std.specs.Prelude.{◌≡◌, ℕ, ◌<◌, true}
use Rattle.limits.specs.Limits.{max_codes}
use Rattle.bits.specs.Digit.{on}

-- fit has the codes with the known digit of cell 0 at vertex x, or all where none is known there
pub record Fitting (kn val x fit : ℕ) : Type 0 where
  pub only : (c : ℕ) → c < max_codes → on fit c ≡ true → on kn x ≡ true → on c 0 ≡ on val x
  pub all : (c : ℕ) → c < max_codes → (on kn x ≡ true → on c 0 ≡ on val x) → on fit c ≡ true
