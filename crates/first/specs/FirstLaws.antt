-- From the outputs kept to all: tables of cells that serve the ones are tables of cells that serve the others, so the first tables of
-- the ones are the first of the others. With the first reading sets for them they are the first core. Assumes nothing.
use Rattle.std.specs.Prelude.{◌≡◌, Bool, true, false, List, ℕ, ◌+◌, ◌≤◌, length}
use Rattle.std.proofs.Common.{sym, ap, ◌∙◌, subst, arith}
use Rattle.bits.specs.LogicLaws.{true_false, never_both}
use Rattle.bits.specs.Digit.{on}
use Rattle.fewest.specs.CountLaws.{serves_conflict, conflict_serves}
use Rattle.order.specs.Total.{NotLess}
use Rattle.order.specs.LeastTablesLaws.{tables_all}
use Rattle.cells.specs.RenumberedLaws.{renumbered-length}
use Rattle.cells.specs.CodesLaws.{cells-length}
use Rattle.cells.specs.Core.{Cell, Differ, Serves, ZeroFirst, Least, Answer, core_of}
use Rattle.cells.specs.Renumbered.{renumbered}
use Rattle.cells.specs.Written.{tables_of}
use Rattle.cells.specs.WrittenLaws.{tables_length, tables_of_rows}
use Rattle.order.specs.Order.{tables_order}
use Rattle.problem.specs.Problem.{label_at, item}
use Rattle.relation.specs.Relation.{Conflict}
use Rattle.dominance.specs.Kept.{StandFor}
use Rattle.dominance.specs.KeptCellsLaws.{origin, all_serves_kept, kept_serves_all, renumbered-cells, renumbered_tables, renumbered_zero}
use Rattle.fewest.specs.Count as count
use Rattle.picking.specs.Picked.{Picked}
use Rattle.witness.specs.Witness.{Witness}
use Rattle.first.specs.First.{FirstCore, Answered}
use Rattle.first.specs.Drawn.{Drawn, Lowest}
use Rattle.first.specs.DrawnLaws.{drawn_shaped, cells_at_zero, witness_zero}

-- nothing found
pub answered_none : (cl budgets : List ℕ) (v m limit : ℕ) (found : Bool) (u : ℕ) (rows codes : List ℕ) → found ≡ false
    → count.Answered cl budgets v m limit found u rows codes → Answered cl budgets v m limit found u rows codes
answered_none cl budgets v m limit found u rows codes e a = record { answer = a.answer; few = a.few; first = λ f. absurd (never_both f e) }

least_found : (v m : ℕ) (Conflict : ℕ → ℕ → ℕ → Type 0) (budget : ℕ → ℕ) (limit : ℕ) (found : Bool) (l : List Cell) → found ≡ true
    → Answer v m Conflict budget limit found l → Least v m Conflict budget l
least_found v m Conflict budget limit true l e a = a.1
least_found v m Conflict budget limit false l e a = absurd (true_false (sym e))

module _ (cl budgets labels budgets' : List ℕ) (v m n : ℕ) (by : List ℕ) (s : StandFor cl budgets v m labels budgets' n by) where
  -- cells that serve all outputs, in codes, serve those kept
  pub witness_kept : (limit : ℕ) (found : Bool) (u : ℕ) (rows codes : List ℕ) → length codes ≡ 32 → found ≡ true
      → count.Answered cl budgets v m limit found u rows codes → Witness labels budgets' v n u codes
  witness_kept limit found u rows codes long e a = record {
    long = long;
    rows = λ o. item rows (origin cl budgets labels budgets' v m n by s o);
    serves = subst (Serves v n (Conflict labels) (item budgets')) (renumbered-cells (origin cl budgets labels budgets' v m n by s) u 0 (item rows) (item codes))
        (all_serves_kept cl budgets labels budgets' v m n by s core (serves_conflict cl v m (item budgets) core least.serves));
    zero = λ k h. ap (on (item codes 0)) (let q : k ≡ 0 + k = omega arith in q) ∙ cells_at_zero u 0 (item rows) (item codes) least.zero k h;
  }
    where
      core : List Cell
      core = core_of u (item rows) (item codes)

      least : Least v m (Differ (label_at cl)) (item budgets) core
      least = least_found v m (Differ (label_at cl)) (item budgets) limit found core e a.answer

  drawn_kept : (u : ℕ) (l : List Cell) → length l ≡ u → Serves v m (Conflict cl) (item budgets) l → ZeroFirst l → Drawn labels budgets' v n u (tables_of v l)
  drawn_kept u l e serves z = record {
    cells = renumbered (origin cl budgets labels budgets' v m n by s) l;
    counted = renumbered-length (origin cl budgets labels budgets' v m n by s) l ∙ e;
    serves = all_serves_kept cl budgets labels budgets' v m n by s l serves;
    zero = renumbered_zero (origin cl budgets labels budgets' v m n by s) l z;
    tables = renumbered_tables (origin cl budgets labels budgets' v m n by s) v l;
  }

  module _ (u : ℕ) (codes rows : List ℕ) (low : Lowest labels budgets' v n u u 0 codes) (p : Picked cl budgets v m u codes rows) where
    abbrev core : List Cell
    core = core_of u (item rows) (item codes)

    -- cells with these tables that serve all outputs
    abbrev all : List Cell
    all = renumbered (item by) (core_of u low.witness.rows (item codes))

    core_serves : Serves v m (Conflict cl) (item budgets) core
    core_serves = p.serves all
        (renumbered-length (item by) (core_of u low.witness.rows (item codes)) ∙ cells-length u 0 low.witness.rows (item codes))
        (renumbered_tables (item by) v (core_of u low.witness.rows (item codes)) ∙ tables_of_rows v u 0 low.witness.rows (item rows) (item codes))
        (kept_serves_all cl budgets labels budgets' v m n by s (core_of u low.witness.rows (item codes)) low.witness.serves)

    first_core : FirstCore v m (Differ (label_at cl)) (item budgets) core
    first_core = record {
      tables = λ l e serves z.
          let d = drawn_kept u l (e ∙ cells-length u 0 (item rows) (item codes)) (serves_conflict cl v m (item budgets) l serves) z in
          subst (λ (ts : List (List Bool)). NotLess (tables_order (tables_of v l) ts)) (tables_of_rows v u 0 (λ o. 0) (item rows) (item codes))
          (tables_all low.least (tables_of v l) (drawn_shaped labels budgets' v n u (tables_of v l) d) d);
      reads = λ l o h serves e. p.first l o h
          (sym (tables_length v l) ∙ ap length e ∙ tables_length v core ∙ cells-length u 0 (item rows) (item codes)) e
          (serves_conflict cl v m (item budgets) l serves);
    }

    pub answered_found : (limit : ℕ) (found : Bool) (rows' codes' : List ℕ) → found ≡ true → count.Answered cl budgets v m limit found u rows' codes'
        → Answered cl budgets v m limit true u rows codes
    answered_found limit found rows' codes' e a = record {
      answer = (
        subst (λ (k : ℕ). k ≤ limit) (sym (cells-length u 0 (item rows) (item codes))) a.few,
        record {
          serves = conflict_serves cl v m (item budgets) core core_serves;
          zero = witness_zero labels budgets' v n u (item rows) codes low.witness;
          fewest = λ k t. subst (λ (j : ℕ). j ≤ length k) (cells-length u 0 (item rows') (item codes') ∙ sym (cells-length u 0 (item rows) (item codes)))
              ((least_found v m (Differ (label_at cl)) (item budgets) limit found (core_of u (item rows') (item codes')) e a.answer).fewest k t);
        },
      );
      few = a.few;
      first = λ _. first_core;
    }
