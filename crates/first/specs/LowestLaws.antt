-- The search for the first tables, step by step: from cells that serve, digit by digit and table by table. A digit that is 0 stays;
-- where it is 1 other cells with 0 there are taken if the search finds some, and if not no tables that serve have 0 there. Cells that
-- change places keep the tables and digits that are settled. Assumes nothing.
use Rattle.std.specs.Prelude.{◌≡◌, Bool, true, false, List, ℕ, ◌+◌, ◌≤◌, ◌<◌}
use Rattle.std.proofs.Common.{sym, ◌∙◌, subst, add-one, arith}
use Rattle.bits.specs.LogicLaws.{true_false}
use Rattle.bits.specs.Digit.{on}
use Rattle.bits.specs.DigitLaws.{on_zero}
use Rattle.order.specs.LeastTablesLaws.{tables_none, own_zero, tables_same, tables_next}
use Rattle.order.proofs.LeastSteps.{tables_zero, tables_one}
use Rattle.order.specs.LeastTables.{UptoTables}
use Rattle.problem.specs.Problem.{item}
use Rattle.cache.specs.Cache.{Honest}
use Rattle.witness.specs.Witness.{Witness, Keeps, Front}
use Rattle.first.specs.Drawn.{shown, Drawn, Lowest, Stands, Remembers, Replied}
use Rattle.first.specs.DrawnLaws.{agrees_before, shown_shaped, shown-digit, shown-take, shown_take_digits, witness_drawn}

-- ======== digit by digit
module _ (cl budgets : List ℕ) (v m u : ℕ) where
  pub lowest_start : (codes : List ℕ) → Witness cl budgets v m u codes → Lowest cl budgets v m u 0 0 codes
  lowest_start codes w = record {
    witness = w;
    least = tables_none (Drawn cl budgets v m u) v u (shown v u codes) (shown_shaped v u codes) (witness_drawn cl budgets v m u codes w);
  }

  -- other cells that serve, with the same digits so far
  pub lowest_same : (i x : ℕ) (codes r : List ℕ) → i < u → x ≤ v → Lowest cl budgets v m u i x codes → Keeps i x v codes r → Witness cl budgets v m u r
      → Lowest cl budgets v m u i x r
  lowest_same i x codes r h l s k w = record {
    witness = w;
    least = tables_same (shown v u r) s.least (shown_shaped v u r) (witness_drawn cl budgets v m u r w) (shown-take v u i codes r h k.tables)
        (shown_take_digits v u i x codes r h l (λ y a. k.digits y a (omega arith)));
  }

  module _ (i x : ℕ) (codes : List ℕ) (h : i < u) (l : x < v) (s : Lowest cl budgets v m u i x codes) where
    -- a digit that is 0 stays
    pub lowest_zero : on (item codes x) i ≡ false → Lowest cl budgets v m u i (x + 1) codes
    lowest_zero e = record {
      witness = s.witness;
      least = subst (λ (y : ℕ). UptoTables (Drawn cl budgets v m u) v u i y (shown v u codes)) (sym (add-one x))
          (tables_zero (shown v u codes) s.least h l (shown_shaped v u codes) s.least.member
          (own_zero i x (shown v u codes) (shown_shaped v u codes) h l (shown-digit v u i x codes h l ∙ e)));
    }

    -- where it is 1, cells that serve have 0 there
    pub lowest_found : (r : List ℕ) (ok : Bool) → ok ≡ true → Replied cl budgets v m u codes i x ok r → Lowest cl budgets v m u i (x + 1) r
    lowest_found r false e a = absurd (true_false (sym e))
    lowest_found r true e a = record {
      witness = a.0;
      least = subst (λ (y : ℕ). UptoTables (Drawn cl budgets v m u) v u i y (shown v u r)) (sym (add-one x))
          (tables_zero (shown v u r) s.least h l (shown_shaped v u r) (witness_drawn cl budgets v m u r a.0) a.1);
    }

    -- or none do, and it stays
    pub lowest_one : (r : List ℕ) (ok : Bool) → ok ≡ false → on (item codes x) i ≡ true → Replied cl budgets v m u codes i x ok r
        → Lowest cl budgets v m u i (x + 1) codes
    lowest_one r true e o a = absurd (true_false e)
    lowest_one r false e o a = record {
      witness = s.witness;
      least = subst (λ (y : ℕ). UptoTables (Drawn cl budgets v m u) v u i y (shown v u codes)) (sym (add-one x))
          (tables_one s.least h l (shown-digit v u i x codes h l ∙ o) a);
    }

  pub lowest_next : (i x : ℕ) (codes : List ℕ) → i < u → x ≡ v → Lowest cl budgets v m u i x codes → Lowest cl budgets v m u (i + 1) 0 codes
  lowest_next i x codes h e s = record {
    witness = s.witness;
    least = subst (λ (k : ℕ). UptoTables (Drawn cl budgets v m u) v u k 0 (shown v u codes)) (sym (add-one i))
        (tables_next (subst (λ (y : ℕ). UptoTables (Drawn cl budgets v m u) v u i y (shown v u codes)) e s.least) h);
  }

  -- the tables that stand before stay the same
  pub stands_found : (i x : ℕ) (codes given r : List ℕ) (ok : Bool) → i < u → ok ≡ true → Replied cl budgets v m u codes i x ok r → Stands codes i v given
      → Stands r i v given
  stands_found i x codes given r false h e a t = absurd (true_false (sym e))
  stands_found i x codes given r true h e a t = record {
    long = t.long;
    digits = λ k y p q. t.digits k y p q ∙ sym (sym (shown-digit v u k y r (omega arith) q)
        ∙ agrees_before i x k y (shown v u codes) (shown v u r) p a.1 ∙ shown-digit v u k y codes (omega arith) q);
  }

pub stands_kept : (i n v : ℕ) (codes given r : List ℕ) → Keeps i n v codes r → Stands codes i v given → Stands r i v given
stands_kept i n v codes given r k t = record { long = t.long; digits = λ j y p q. t.digits j y p q ∙ sym (k.tables j y p q) }

pub stands_front : (i v : ℕ) (codes given : List ℕ) → v ≤ 32 → Front codes i given → Stands codes i v given
stands_front i v codes given few f = record { long = f.long; digits = λ k x p q. f.kept x k (omega arith) p }

-- ======== a cache that says nothing
pub remembers_none : (cl given : List ℕ) (v : ℕ) (mem : List ℕ) → Honest cl given 0 0 v mem → Remembers cl given v mem
remembers_none cl given v mem h = record { kn = 0; val = 0; free = λ _. on_zero 0; honest = h }
