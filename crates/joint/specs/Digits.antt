-- Known digits of cell 0 at the joint classes: a class has the digits of its first vertex. Assumes nothing.
use Rattle.std.specs.Prelude.{◌≡◌, Bool, false, List, ℕ, ◌≤◌, ◌<◌, get_or, Option}
use Rattle.std.specs.Bool.{then_some}
use Rattle.limits.specs.declared.Vertex.{Vertex}
use Rattle.bits.specs.Digit.{on}

-- the vertex at a place of an array
abbrev pub vertex_at : List Vertex → ℕ → ℕ
vertex_at l i = (get_or l i (record { 0 = 0 })).0

-- what is known of cell 0 at x: its digit, if any
abbrev pub known_at : ℕ → ℕ → ℕ → Option Bool
known_at kn val x = then_some (on kn x) (on val x)

-- the first n digits of r are those of s at the first vertices of the classes
pub record Drawn (s : ℕ) (first : List Vertex) (n r : ℕ) : Type 0 where
  pub below : (i : ℕ) → i < n → on r i ≡ on s (vertex_at first i)
  pub rest : (i : ℕ) → n ≤ i → on r i ≡ false
