-- The first set that suits is found by looking at all sets: one that suits is kept where it comes before the best so far.
-- Assumes nothing.
use Rattle.std.specs.Prelude.{◌≡◌, refl, true, false, List, ℕ, ◌+◌, ◌^◌, ◌<◌, length, set}
use Rattle.std.proofs.Common.{sym, ◌∙◌, subst, inl, inr, ⊎_elim, arith, length-set, pow_pos, ext_get_or}
use Rattle.bits.specs.Digit.{on}
use Rattle.bits.specs.Values.{values_upto}
use Rattle.bits.specs.CountLaws.{less_or_equal}
use Rattle.bits.specs.FilledLaws.{each_more}
use Rattle.bits.specs.Filled.{Filled}
use Rattle.order.specs.Total.{NotLess}
use Rattle.order.specs.Order.{is_less, table_order}
use Rattle.order.specs.OrderLaws.{above_not_less}
use Rattle.order.proofs.TotalLaws.{table_total}
use Rattle.problem.specs.Problem.{item}
use Rattle.picking.specs.Best.{Suits, set_order, Best, FirstRows}
use Rattle.picking.specs.SoonerLaws.{set_self, empty-last}

module _ (cl codes : List ℕ) (v o u budget : ℕ) where
  pub best_start : Best cl codes v o u budget 0 0
  best_start = record { low = pow_pos u; empty_or_suits = inl refl; suits = λ f h. absurd (omega arith); first = λ f h. absurd (omega arith) }

  -- one set more, where the best stays
  best_stays : (f best : ℕ) → (Suits cl codes v o budget f → Suits cl codes v o budget best) → (Suits cl codes v o budget f → NotLess (set_order u best f))
      → Best cl codes v o u budget f best → Best cl codes v o u budget (f + 1) best
  best_stays f best s n b = record {
    low = b.low;
    empty_or_suits = b.empty_or_suits;
    suits = λ g h. ⊎_elim (λ l. b.suits g l) (λ e k. s (subst (Suits cl codes v o budget) e k)) (less_or_equal g f (omega arith));
    first = λ g h. ⊎_elim (λ l. b.first g l)
        (λ e k. subst (λ (g : ℕ). NotLess (set_order u best g)) (sym e) (n (subst (Suits cl codes v o budget) e k))) (less_or_equal g f (omega arith));
  }

  pub best_unsuited : (f best : ℕ) → (Suits cl codes v o budget f → ⊥) → Best cl codes v o u budget f best → Best cl codes v o u budget (f + 1) best
  best_unsuited f best d b = best_stays f best (λ s. absurd (d s)) (λ s. absurd (d s)) b

  pub best_not_sooner : (f best : ℕ) → f < 2 ^ u → is_less (set_order u best f) ≡ false
      → Best cl codes v o u budget f best → Best cl codes v o u budget (f + 1) best
  best_not_sooner f best h e b = best_stays f best
      (λ s. ⊎_elim (λ z. subst (Suits cl codes v o budget) (empty z ∙ sym z) s) (λ k. k) b.empty_or_suits)
      (λ s. record { is_not = e }) b
    where
      empty : best ≡ 0 → f ≡ 0
      empty z = empty-last u f h (subst (λ (g : ℕ). NotLess (set_order u g f)) z (record { is_not = e }))

  pub best_sooner : (f best : ℕ) → f < 2 ^ u → is_less (set_order u best f) ≡ true → Suits cl codes v o budget f
      → Best cl codes v o u budget f best → Best cl codes v o u budget (f + 1) f
  best_sooner f best h e s b = record {
    low = h;
    empty_or_suits = inr s;
    suits = λ g k t. s;
    first = λ g k t. ⊎_elim
        (λ l. above_not_less table_order table_total (values_upto (on best) u) (values_upto (on f) u) (values_upto (on g) u) e (b.first g l t))
        (λ q. subst (λ (g : ℕ). NotLess (set_order u f g)) (sym q) (set_self u f))
        (less_or_equal g f (omega arith));
  }

-- ---- arrays filled one after the other
pub first_rows_more : (cl codes budgets : List ℕ) (v u n : ℕ) (r : List ℕ) (f : ℕ) → n < 8 → Best cl codes v n u (item budgets n) (2 ^ u) f
    → FirstRows cl codes budgets v u n r → FirstRows cl codes budgets v u (n + 1) (set r n f)
first_rows_more cl codes budgets v u n r f h b s = record {
  long = length-set r n f ∙ s.long;
  done = each_more (λ o f. Best cl codes v o u (item budgets o) (2 ^ u) f) n f r (let z = s.long in omega arith) b s.done;
}

pub copied_all : (codes r : List ℕ) → length codes ≡ 32 → Filled 32 (item codes) 32 r → r ≡ codes
copied_all codes r e s = ext_get_or 0 r codes (s.long ∙ sym e) (λ i h. s.done i (let z = s.long in omega arith))
