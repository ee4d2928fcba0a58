-- Sets of codes narrowed so that what may stay stays, and which codes may stay where an output has no place left. Assumes
-- nothing.
use Rattle.std.specs.Prelude.{◌≡◌, true, List, ◌⊎◌, ℕ, ◌+◌, ◌≤◌, ◌<◌, length}
use Rattle.limits.specs.Limits.{max_vertices, max_codes}
use Rattle.bits.specs.Digit.{on}
use Rattle.problem.specs.Problem.{label_at, part_of, item}

-- of the first n sets each code that may stay stays
pub record Narrowed (Stays : ℕ → ℕ → Type 0) (dom : List ℕ) (n : ℕ) (r : List ℕ) : Type 0 where
  pub long : length r ≡ max_vertices
  pub done : (y k : ℕ) → y < n → k < max_codes → on (item dom y) k ≡ true → Stays y k → on (item r y) k ≡ true
  pub rest : (y : ℕ) → n ≤ y → item r y ≡ item dom y

-- a code of a class where no place is left: in the blocks that the class holds, if it wants no more, and in these or in
-- common, if it wants one more
pub record Keeps (own meet has wants need k : ℕ) : Type 0 where
  pub held : wants ≡ has → need ≤ has → on own k ≡ true
  pub near : wants ≡ has + 1 → need ≤ has + 1 → (on own k ≡ true) ⊎ (on meet k ≡ true)

-- a code of a vertex in whose part no place is left, by the set of these parts
abbrev pub Stays : List ℕ → List ℕ → ℕ → ℕ → List ℕ → List ℕ → List ℕ → List ℕ → ℕ → ℕ → Type 0
Stays cl base o tight own meet owns wants y k =
    on tight (part_of cl o y) ≡ true
    → Keeps (item own (label_at cl o y)) (item meet (label_at cl o y)) (item owns (label_at cl o y)) (item wants (label_at cl o y)) (label_at base o (label_at cl o y)) k
