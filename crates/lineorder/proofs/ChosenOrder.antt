-- Of two sets of shared tables as digits the one comes first, as text, that has the first table in which they differ. Assumes nothing.
use Rattle.std.specs.Prelude.{◌≡◌, refl, Bool, true, false, List, [], ◌∷◌, length}
use Rattle.std.proofs.Common.{ap, ◌∙◌, arith}
use Prim.Native.Nat.{ℕ, suc, Ordering}
use Rattle.order.specs.Order.{then, list_order, table_order}
use Rattle.order.specs.OrderLaws.{compare_total}
use Rattle.lineorder.specs.NodeOrder.{reads_order}
use Rattle.lineorder.specs.ReadingSets.{chosen, chosen_rises, before_rising}

pub chosen_order : (i : ℕ) (bs cs : List Bool) → length bs ≡ length cs → reads_order (chosen i bs) (chosen i cs) ≡ table_order cs bs
unfolding chosen list_order reads_order
chosen_order i [] [] e = refl
chosen_order i [] (c ∷ cs) e = absurd (omega (arith, e))
chosen_order i (b ∷ bs) [] e = absurd (omega (arith, e))
chosen_order i (true ∷ bs) (true ∷ cs) e =
    ap (λ (o : Ordering). then o (reads_order (chosen (suc i) bs) (chosen (suc i) cs))) (compare_total.self i)
    ∙ chosen_order (suc i) bs cs (let g : suc (length bs) ≡ suc (length cs) = e in omega arith)
chosen_order i (true ∷ bs) (false ∷ cs) e =
    (before_rising i (chosen (suc i) bs) (chosen_rises (suc i) cs) (omega arith)).0
chosen_order i (false ∷ bs) (true ∷ cs) e =
    (before_rising i (chosen (suc i) cs) (chosen_rises (suc i) bs) (omega arith)).1
chosen_order i (false ∷ bs) (false ∷ cs) e =
    chosen_order (suc i) bs cs (let g : suc (length bs) ≡ suc (length cs) = e in omega arith)
