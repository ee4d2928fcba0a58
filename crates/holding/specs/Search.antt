-- The steps of the search for codes: the next vertex, the vertices without a code, a vertex that no code is left for. Assumes
-- nothing.
use Rattle.std.specs.Prelude.{List, ℕ, ◌≡◌, ◌≤◌, ◌<◌, leb, Option, MatchOption}
use Rattle.bits.specs.Count.{count}
use Rattle.problem.specs.Problem.{no_code, item}

-- the first y vertices have codes and there is no best, or one of them without a code is best
abbrev pub Seeking : List ℕ → ℕ → Option ℕ → Type 0
Seeking codes y best = MatchOption best ((x : ℕ) → x < y → item codes x < no_code) (λ x. (x < y) × (no_code ≤ item codes x))

-- how many vertices have no code
abbrev pub uncoded : List ℕ → ℕ → ℕ
uncoded codes v = count (λ (y : ℕ). leb no_code (item codes y)) v

-- some vertex has no code left
abbrev pub Empty : List ℕ → ℕ → Type 0
Empty dom v = (y : ℕ) × (y < v) × (item dom y ≡ 0)
