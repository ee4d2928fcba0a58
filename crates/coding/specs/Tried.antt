-- Sets of codes with room for every solution that goes on from the codes given, and the codes of a vertex that are still to be
-- tried. Assumes nothing.
use Rattle.std.specs.Prelude.{◌≡◌, ℕ, ◌<◌, true, List}
use Rattle.limits.specs.Limits.{max_codes}
use Rattle.bits.specs.Digit.{on}
use Rattle.problem.specs.Problem.{item, Solves, Extends, Fixed}
use Rattle.coding.specs.Values.{Agrees}

-- the sets of codes have room for every solution with the known digits that goes on from the codes given
pub record Covers (cl base ms caps spots : List ℕ) (v j kn val : ℕ) (codes dom : List ℕ) : Type 0 where
  pub covers : (g : ℕ → ℕ) → Solves cl base ms caps spots v j g → Agrees codes v g → Fixed kn val v g → (x : ℕ) → x < v → on (item dom x) (g x) ≡ true

-- left has codes with the known digit at x only, and each solution with the known digits whose code at x is in can has it in
-- left
pub record Trying (cl base ms caps spots : List ℕ) (v j kn val : ℕ) (codes dom : List ℕ) (x can left : ℕ) : Type 0 where
  pub tried : (g : ℕ → ℕ) → Solves cl base ms caps spots v j g → Extends codes dom v g → Fixed kn val v g → on can (g x) ≡ true → on left (g x) ≡ true
  pub digit : (c : ℕ) → c < max_codes → on left c ≡ true → on kn x ≡ true → on c 0 ≡ on val x
