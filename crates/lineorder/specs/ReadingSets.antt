-- Sets of shared tables as digits, one for each table in order: as text, of two sets the one comes first that has the first
-- table in which they differ. Assumes nothing.
use Rattle.std.specs.Prelude.{◌≡◌, refl, Bool, true, false, List, [], ◌∷◌, length}
use Rattle.std.proofs.Common.{ap, arith}
use Prim.Native.Nat.{ℕ, suc, ◌+◌, ◌<◌, Ordering}
use Rattle.bits.specs.Logic.{pick}
use Rattle.network.specs.Reads.{Rising, rising_none, rising_more}
use Rattle.network.specs.RisingLaws.{rising_wider}
use Rattle.order.specs.Order.{then}
use Rattle.order.specs.OrderLaws.{compare_less, compare_greater}
use Rattle.lineorder.specs.NodeOrder.{reads_order}

-- ======== definitions
-- the numbers from i on whose digit is 1
unfoldable pub chosen : ℕ → List Bool → List ℕ
chosen i [] = []
chosen i (b ∷ bs) =
    let rest = chosen (suc i) bs in
    pick b (i ∷ rest) rest

-- ======== laws
pub chosen_rises : (i : ℕ) (bs : List Bool) → Rising i (i + length bs) (chosen i bs)
unfolding chosen
chosen_rises i [] = rising_none
chosen_rises i (true ∷ bs) =
    rising_more {i = i} {u = i + suc (length bs)} {j = i} (omega arith) (omega arith)
    (rising_wider (suc i) (i + suc (length bs)) (omega arith) (omega arith) (chosen_rises (suc i) bs))
chosen_rises i (false ∷ bs) =
    rising_wider i (i + suc (length bs)) (omega arith) (omega arith) (chosen_rises (suc i) bs)

pub before_rising : {k u : ℕ} {js : List ℕ} (i : ℕ) (is : List ℕ)
    → Rising k u js
    → i < k
    → (reads_order (i ∷ is) js ≡ Ordering.lt) × (reads_order js (i ∷ is) ≡ Ordering.gt)
unfolding reads_order
before_rising i is rising_none h = (refl, refl)
before_rising i is (rising_more {j = j} {js = js} a b r) h = (
  ap (λ (o : Ordering). then o (reads_order is js)) (compare_less i j (omega arith)),
  ap (λ (o : Ordering). then o (reads_order js is)) (compare_greater j i (omega arith)),
)
