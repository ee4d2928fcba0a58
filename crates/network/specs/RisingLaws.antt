-- Rising numbers: from where on and below what they rise, and how many there are. Assumes nothing.
use Rattle.std.specs.Prelude.{List, ◌∷◌, ℕ, suc, ◌≤◌, ◌<◌}
use Rattle.std.proofs.Common.{arith}
use Rattle.network.specs.Reads.{Rising, rising_none, rising_more}

-- from a lower number on, and below a higher one
pub rising_wider : {j u : ℕ} {is : List ℕ} (i v : ℕ) → i ≤ j → u ≤ v → Rising j u is → Rising i v is
rising_wider i v h k rising_none = rising_none
rising_wider i v h k (rising_more {j = a} l m r) =
    rising_more {i = i} {u = v} {j = a} (omega arith) (omega arith) (rising_wider (suc a) v (omega arith) k r)

pub rising_low : {i u j : ℕ} {js : List ℕ} → Rising i u (j ∷ js) → i ≤ j
rising_low (rising_more l m r) = l

pub rising_high : {i u j : ℕ} {js : List ℕ} → Rising i u (j ∷ js) → j < u
rising_high (rising_more l m r) = m

pub rising_later : {i u j : ℕ} {js : List ℕ} → Rising i u (j ∷ js) → Rising (suc j) u js
rising_later (rising_more l m r) = r
