-- Sets of codes, and blocks of codes as such sets: a table of the blocks of each output, a set without another, and the codes
-- of all blocks that meet a set. Assumes nothing.
use Rattle.std.specs.Prelude.{◌≡◌, true, not, List, [], ◌∷◌, ℕ, zero, suc, ◌≤◌, ◌<◌, ◌/◌, ◌%◌, length, get_or}
use Rattle.std.specs.Int.Bits.{bit_and}
use Rattle.limits.specs.Limits.{block_count, max_codes}
use Rattle.bits.specs.Logic.{andb}
use Rattle.bits.specs.Digit.{on}
use Rattle.problem.specs.Problem.{item, Block}

-- the table of blocks, filled up to n
pub record Table (ms : List ℕ) (n : ℕ) (bs : List ℕ) : Type 0 where
  pub long : length bs ≡ block_count
  pub filled : (i : ℕ) → i < n → Block (item ms (i / max_codes)) (i % max_codes) (get_or bs i 0)

-- r is d without b
pub record Minus (d b r : ℕ) : Type 0 where
  pub digit : (k : ℕ) → k < max_codes → on r k ≡ andb (on d k) (not (on b k))
  pub less : r ≤ d

-- ---- a list of n sets with every code
abbrev pub copies : ℕ → ℕ → List ℕ
copies zero x = []
copies (suc n) x = x ∷ copies n x

-- r has the whole block of each code of d, and no other code
pub record Spans (mask d r : ℕ) : Type 0 where
  pub whole : (c k : ℕ) → c < max_codes → k < max_codes → on d c ≡ true → bit_and c mask ≡ bit_and k mask → on r k ≡ true
  pub only : (k : ℕ) → k < max_codes → on r k ≡ true → (c : ℕ) × (c < max_codes) × (on d c ≡ true) × (bit_and c mask ≡ bit_and k mask)
