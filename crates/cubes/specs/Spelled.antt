-- Which bytes are literals, which lines are cubes, and whether something was read. Assumes nothing.
use Rattle.std.specs.Prelude.{◌≡◌, Bool, true, false, ◌||◌, List, ℕ, eqb, length}
use Rattle.std.proofs.Math.Option.{Option, some, none}
use Rattle.cubes.specs.Cube.{Cube, print_cube}

unfoldable pub is_literal : ℕ → Bool
is_literal b = eqb b 0x30 || eqb b 0x31 || eqb b 0x2D

abbrev pub is_there : {A : Type 0} → Option A → Bool
is_there none = false
is_there (some a) = true

-- ---- the line
-- the line l, with literals for i inputs and bytes for o outputs, says the cube c
pub record CubeWritten (i o : ℕ) (l : List ℕ) (c : Cube) : Type 0 where
  pub is_print : l ≡ print_cube c
  pub literals_counted : length c.literals ≡ i
  pub marks_counted : length c.marks ≡ o
