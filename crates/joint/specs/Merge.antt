-- One vertex for each joint class: vertices with equal labels for every output in question, and with the same known of cell 0,
-- are merged; the classes have the labels of their first vertices, and each vertex takes the code of its class. Assumes
-- nothing.
use Rattle.std.specs.Prelude.{◌≡◌, List, ℕ, ◌*◌, ◌/◌, ◌%◌, ◌≤◌, ◌<◌, length, get_or}
use Rattle.limits.specs.Limits.{max_vertices, label_count}
use Rattle.limits.specs.declared.Vertex.{Vertex}
use Rattle.bits.specs.Filled.{Filled}
use Rattle.joint.specs.declared.JointClass.{JointClass}
use Rattle.problem.specs.Problem.{label_at, item}
use Rattle.joint.specs.Digits.{vertex_at, known_at}

-- the joint class at a place of an array
abbrev pub joint_at : List JointClass → ℕ → ℕ
joint_at l x = (get_or l x (record { 0 = 0 })).0

-- x and y have the same classes for the first n outputs
abbrev pub SameLabels : List ℕ → ℕ → ℕ → ℕ → Type 0
SameLabels cl n x y = (o : ℕ) → o < n → label_at cl o x ≡ label_at cl o y

-- x and y may be merged: they have the same classes, and the same is known of cell 0
abbrev pub Mergeable : List ℕ → ℕ → ℕ → ℕ → ℕ → ℕ → Type 0
Mergeable cl j kn val x y = SameLabels cl j x y × (known_at kn val x ≡ known_at kn val y)

-- the first x vertices belong to n joint classes: vertex y to class place y, whose first vertex is first of it
pub record Merged (cl : List ℕ) (j kn val x n : ℕ) (first : List Vertex) (place : List JointClass) : Type 0 where
  pub first_long : length first ≡ max_vertices
  pub place_long : length place ≡ max_vertices
  pub few : n ≤ x
  pub low : (i : ℕ) → i < n → vertex_at first i < x
  pub small : (i : ℕ) → i < max_vertices → vertex_at first i < max_vertices
  pub start : vertex_at first 0 ≡ 0
  pub within : (y : ℕ) → y < x → joint_at place y < n
  pub same : (y : ℕ) → y < x → Mergeable cl j kn val y (vertex_at first (joint_at place y))

-- the first n entries copied
abbrev pub Copied : List ℕ → ℕ → List ℕ → Type 0
Copied cl n r = Filled (2 * label_count) (λ i. get_or cl i 0) n r

-- labels of the joint classes, the first n of them: joint class i has the labels of its first vertex; the rest stays
pub record Picked (cl : List ℕ) (first : List Vertex) (n : ℕ) (r : List ℕ) : Type 0 where
  pub long : length r ≡ 2 * label_count
  pub done : (i : ℕ) → i < n → get_or r i 0 ≡ label_at cl (i / max_vertices) (vertex_at first (i % max_vertices))
  pub rest : (i : ℕ) → n ≤ i → i < 2 * label_count → get_or r i 0 ≡ get_or cl i 0

-- each of the first n vertices with the code of its class
abbrev pub Spread : List JointClass → List ℕ → ℕ → List ℕ → Type 0
Spread place codes n r = Filled max_vertices (λ x. item codes (joint_at place x)) n r
