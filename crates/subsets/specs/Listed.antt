-- The members of a set in an array with a place for each output that there may be. Assumes nothing.
use Rattle.std.specs.Prelude.{◌≡◌, List, ℕ, ◌<◌, length, get_or}
use Rattle.limits.specs.Limits.{search_outputs}
use Rattle.subsets.specs.Subset.{size, member_at}

-- the first n places have the members of s among the first m outputs, in order, and every place has the number of an output
pub record Lists (m s n : ℕ) (from : List ℕ) : Type 0 where
  pub long : length from ≡ search_outputs
  pub small : (j : ℕ) → j < search_outputs → get_or from j 0 < search_outputs
  pub count : n ≡ size m s
  pub each : (j : ℕ) → j < n → get_or from j 0 ≡ member_at m s j

-- x stands at a place of the list l
pub record Place (l : List ℕ) (x : ℕ) : Type 0 where
  pub place : ℕ
  pub within : place < length l
  pub is_there : get_or l place 0 ≡ x
