-- Codes joined with those that differ from them in one cell, and a set joined so in the first cells outside a mask. Assumes
-- nothing.
use Rattle.std.specs.Prelude.{◌≡◌, true, ◌⊎◌, ℕ, ◌^◌, ◌≤◌, ◌<◌}
use Rattle.std.specs.Int.Bits.{bit_xor}
use Rattle.limits.specs.Limits.{max_codes}
use Rattle.bits.specs.Logic.{orb}
use Rattle.bits.specs.Digit.{on}

-- the code that differs from k in cell i alone
abbrev pub across : ℕ → ℕ → ℕ
across i k = bit_xor k (2 ^ i)

-- r has the codes of d and those that differ from a code of d in cell i alone, and no others
pub record Joined (d i r : ℕ) : Type 0 where
  pub digit : (k : ℕ) → k < max_codes → on r k ≡ orb (on d k) (on d (across i k))

-- c and k are the same in the cells of the mask and in the cells from i on
abbrev pub Matches : ℕ → ℕ → ℕ → ℕ → Type 0
Matches mask i c k = (j : ℕ) → (on mask j ≡ true) ⊎ (i ≤ j) → on c j ≡ on k j

-- r has the codes that match a code of d so, and no others
pub record Spreading (mask d i r : ℕ) : Type 0 where
  pub has : (c k : ℕ) → c < max_codes → k < max_codes → on d c ≡ true → Matches mask i c k → on r k ≡ true
  pub from : (k : ℕ) → k < max_codes → on r k ≡ true → (c : ℕ) × (c < max_codes) × (on d c ≡ true) × Matches mask i c k
