-- How many blocks each class of an output needs: those that it holds, one more where some vertex of it can take none of these,
-- and two more where the vertices that can take none have no block in common; and what the classes of each part need together.
-- Assumes nothing.
use Rattle.std.specs.Prelude.{◌≡◌, true, List, ◌⊎◌, ℕ, ◌+◌, ◌*◌, ◌≤◌, ◌<◌, max, eqb, length, get_or}
use Rattle.std.specs.Int.Bits.{bit_and}
use Rattle.limits.specs.Limits.{max_vertices, max_codes}
use Rattle.bits.specs.Logic.{pick}
use Rattle.bits.specs.Digit.{on}
use Rattle.bits.specs.Count.{sum}
use Rattle.problem.specs.Problem.{label_at, part_at, item}

-- one of the first y vertices, of class l, can take none of the blocks that its class holds
abbrev pub New : List ℕ → ℕ → ℕ → List ℕ → List ℕ → ℕ → Type 0
New cl o y dom own l = (x : ℕ) × (x < y) × (label_at cl o x ≡ l) × (bit_and (item dom x) (item own l) ≡ 0)

-- the set d has a code in k's block
abbrev pub Near : ℕ → ℕ → ℕ → Type 0
Near mask d k = (c : ℕ) × (c < max_codes) × (on d c ≡ true) × (bit_and c mask ≡ bit_and k mask)

-- wants has for each class the blocks that it holds, one more where one of the first y vertices can take none of them, and two
-- more where these vertices have no block in common; meet has the codes that they have in common, block by block
pub record Wanted (cl : List ℕ) (o mask y : ℕ) (dom own owns wants meet : List ℕ) : Type 0 where
  pub long : length wants ≡ max_vertices
  pub meet_long : length meet ≡ max_vertices
  pub each : (l : ℕ) → l < max_vertices → (item wants l ≡ item owns l) ⊎ (New cl o y dom own l × ((item wants l ≡ item owns l + 1) ⊎ ((item wants l ≡ item owns l + 2) × (item meet l ≡ 0))))
  pub meets : (l k : ℕ) → l < max_vertices → k < max_codes → ((x : ℕ) → x < y → label_at cl o x ≡ l → bit_and (item dom x) (item own l) ≡ 0 → Near mask (item dom x) k) → on (item meet l) k ≡ true

-- how many blocks class l of o holds or needs
abbrev pub need : List ℕ → List ℕ → ℕ → ℕ → ℕ
need owns base o l = max (get_or owns l 0) (label_at base o l)

-- the same, or nothing for a class of another part than p
abbrev pub share : List ℕ → List ℕ → List ℕ → ℕ → ℕ → ℕ → ℕ
share cl owns base o p l = pick (eqb (part_at cl o l) p) (need owns base o l) 0

-- how many blocks the classes of part p hold or need
abbrev pub needed : List ℕ → List ℕ → List ℕ → ℕ → ℕ → ℕ
needed cl owns base o p = sum (share cl owns base o p) 32

-- the same for each part, of the first n classes
pub record Totals (cl owns base : List ℕ) (o n : ℕ) (t : List ℕ) : Type 0 where
  pub long : length t ≡ 32
  pub each : (p : ℕ) → p < 32 → item t p ≡ sum (share cl owns base o p) n
  pub low : (p : ℕ) → p < 32 → item t p ≤ n * 255

-- the parts of tight hold or need spot
pub record Tight (cl wants base : List ℕ) (o spot tight : ℕ) : Type 0 where
  pub full : (p : ℕ) → p < max_vertices → on tight p ≡ true → needed cl wants base o p ≡ spot

-- of the first n numbers those of tight are spot
pub record TightBelow (ts : List ℕ) (spot n tight : ℕ) : Type 0 where
  pub all : (p : ℕ) → on tight p ≡ true → (p < n) × (item ts p ≡ spot)
