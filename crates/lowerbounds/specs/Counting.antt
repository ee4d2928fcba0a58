-- The kinds of each class of o, counted vertex by vertex: for each class l of o the set of the classes of q met in it, and for each
-- part of q how many of these are of that part. Each such number stands for a list of vertices, one for each class met. Assumes nothing.
use Rattle.std.specs.Prelude.{◌≡◌, true, List, ℕ, ◌+◌, ◌*◌, ◌≤◌, ◌<◌, length}
use Rattle.limits.specs.Limits.{max_vertices}
use Rattle.bits.specs.Digit.{on}
use Rattle.cells.specs.Lists.{All, Pairs}
use Rattle.problem.specs.Problem.{label_at, part_of, item}
use Rattle.lowerbounds.specs.Reasons.{FewKinds}

-- y, before x, is of class l of o and of part p of q, and its class of q is in the set s
abbrev pub Met : List ℕ → ℕ → ℕ → ℕ → ℕ → ℕ → ℕ → ℕ → Type 0
Met cl o l q p x s y = (y < x) × (label_at cl o y ≡ l) × (on s (label_at cl q y) ≡ true) × (part_of cl q y ≡ p)

-- two vertices of different classes of q
abbrev pub Differ : List ℕ → ℕ → ℕ → ℕ → Type 0
Differ cl q a b = label_at cl q a ≡ label_at cl q b → ⊥

-- n vertices before x of different classes of q, all met
pub record Found (cl : List ℕ) (o l q p x s n : ℕ) : Type 0 where
  pub vertices : List ℕ
  pub met : All (Met cl o l q p x s) vertices
  pub differ : Pairs (Differ cl q) vertices
  pub counted : length vertices ≡ n
  pub few : n ≤ x

-- the classes of q met before x in each class of o, and their numbers part by part
pub record Counting (cl : List ℕ) (o q x : ℕ) (seen g : List ℕ) : Type 0 where
  pub sets : length seen ≡ max_vertices
  pub long : length g ≡ max_vertices * max_vertices
  pub found : (l p : ℕ) → l < max_vertices → p < max_vertices → Found cl o l q p x (item seen l) (item g (l * max_vertices + p))

-- for each class of o a number of kinds among the vertices before x
pub record KindsSoFar (cl : List ℕ) (o q x : ℕ) (r : List ℕ) : Type 0 where
  pub long : length r ≡ max_vertices
  pub each : (l : ℕ) → l < max_vertices → FewKinds cl x o l q (item r l)
