-- How two sets of cells compare: the first cell in which they differ decides, and the empty set comes last. Assumes nothing.
use Rattle.std.specs.Prelude.{◌≡◌, refl, Bool, true, false}
use Rattle.std.proofs.Common.{sym, ap, ap₂, ◌∙◌, subst, arith}
use Prim.Native.Nat.{ℕ, zero, suc, ◌^◌, ◌<◌, Ordering}
use Rattle.std.proofs.Math.Decide.{dec_lt}
use Rattle.bits.specs.Digit.{on}
use Rattle.bits.specs.DigitLaws.{on_zero, on_above, on_none}
use Rattle.bits.specs.Values.{values_upto}
use Rattle.bits.specs.ValuesLaws.{values_first, values_same, same_values}
use Rattle.order.specs.Total.{NotLess}
use Rattle.order.specs.Order.{then, list_order, is_less, bit_order, table_order}
use Rattle.order.specs.OrderLaws.{not_less_eq, then_not_less, neither_less, bit_total}
use Rattle.order.proofs.TotalLaws.{table_total}
use Rattle.order.specs.LeastLaws.{zero-low}
use Rattle.picking.specs.Best.{set_order}

-- ======== values of two tests
first_values : (p q : ℕ → Bool) (n : ℕ)
    → table_order (values_upto p (suc n)) (values_upto q (suc n))
    ≡ then (bit_order (p 0) (q 0)) (table_order (values_upto (λ (i : ℕ). p (suc i)) n) (values_upto (λ (i : ℕ). q (suc i)) n))
unfolding list_order
first_values p q n = ap₂ table_order (values_first p n) (values_first q n)

values_differ : (p q : ℕ → Bool) (n i : ℕ) → i < n → ((j : ℕ) → j < i → p j ≡ q j) → (p i ≡ q i → ⊥)
    → is_less (table_order (values_upto q n) (values_upto p n)) ≡ p i
values_differ p q zero i h s d = absurd (omega arith)
values_differ p q (suc n) zero h s d =
    ap is_less (first_values q p n) ∙ go (p 0) (q 0) (table_order (values_upto (λ (i : ℕ). q (suc i)) n) (values_upto (λ (i : ℕ). p (suc i)) n)) d
  where
    go : (a b : Bool) (rest : Ordering) → (a ≡ b → ⊥) → is_less (then (bit_order b a) rest) ≡ a
    go true true rest d = absurd (d refl)
    go true false rest d = refl
    go false true rest d = refl
    go false false rest d = absurd (d refl)
values_differ p q (suc n) (suc i) h s d =
    let rest = table_order (values_upto (λ (i : ℕ). q (suc i)) n) (values_upto (λ (i : ℕ). p (suc i)) n) in
    let equal : bit_order (q 0) (p 0) ≡ Ordering.eq = ap (bit_order (q 0)) (s 0 (omega arith)) ∙ bit_total.self (q 0) in
    ap is_less (first_values q p n) ∙ ap (λ (o : Ordering). is_less (then o rest)) equal
    ∙ values_differ (λ (i : ℕ). p (suc i)) (λ (i : ℕ). q (suc i)) n i (omega arith) (λ j k. s (suc j) (omega arith)) d

values_least : (p q : ℕ → Bool) (n : ℕ) → ((i : ℕ) → q i ≡ false) → NotLess (table_order (values_upto p n) (values_upto q n))
unfolding values_upto list_order
values_least p q zero none = not_less_eq
values_least p q (suc n) none = subst NotLess (sym (first_values p q n))
    (then_not_less (bit_order (p 0) (q 0)) (table_order (values_upto (λ (i : ℕ). p (suc i)) n) (values_upto (λ (i : ℕ). q (suc i)) n))
    (subst (λ (b : Bool). NotLess (bit_order (p 0) b)) (sym (none 0)) (zero-low (p 0)))
    (λ e. values_least (λ (i : ℕ). p (suc i)) (λ (i : ℕ). q (suc i)) n (λ i. none (suc i))))

-- ======== two sets of cells
-- the set that has the first cell in which they differ is the greater one
pub sooner_differ : (u f g i : ℕ) → i < u → ((j : ℕ) → j < i → on f j ≡ on g j) → (on f i ≡ on g i → ⊥) → on f i ≡ is_less (set_order u g f)
sooner_differ u f g i h s d = sym (values_differ (on f) (on g) u i h s d)

pub sooner_same : (u f g : ℕ) → ((j : ℕ) → j < u → on f j ≡ on g j) → false ≡ is_less (set_order u g f)
sooner_same u f g s = sym (ap is_less (ap (table_order (values_upto (on g) u)) (values_same (on f) (on g) u s) ∙ table_total.self (values_upto (on g) u)))

pub set_self : (u f : ℕ) → NotLess (set_order u f f)
set_self u f = subst NotLess (sym (table_total.self (values_upto (on f) u))) not_less_eq

-- the empty set comes last
pub empty-last : (u f : ℕ) → f < 2 ^ u → NotLess (set_order u 0 f) → f ≡ 0
empty-last u f low h = on_none f (λ k. at k (dec_lt k u))
  where
    same : values_upto (on 0) u ≡ values_upto (on f) u
    same = neither_less table_order table_total (values_upto (on 0) u) (values_upto (on f) u) h (values_least (on f) (on 0) u on_zero)

    at : (k : ℕ) → Dec (k < u) → on f k ≡ false
    at k (yes l) = sym (same_values (on 0) (on f) u k l same) ∙ on_zero k
    at k (no l) = on_above u f k low (omega arith)
