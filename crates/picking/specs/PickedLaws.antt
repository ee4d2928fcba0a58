-- Sets of cells and lists of cells: what an output reads of cells that serve is a set that suits, and sets that suit, one for each
-- output, give cells that serve. Assumes nothing.
use Rattle.std.specs.Prelude.{◌≡◌, true, List, ℕ, ◌^◌, ◌≤◌, ◌<◌, length}
use Rattle.std.proofs.Common.{sym, ap, ap₂, ◌∙◌, subst, arith}
use Rattle.std.proofs.Math.Decide.{dec_lt}
use Rattle.bits.specs.Digit.{on}
use Rattle.bits.specs.DigitLaws.{on_above}
use Rattle.bits.specs.Values.{values_upto}
use Rattle.bits.specs.LogicLaws.{never_both}
use Rattle.bits.specs.Count.{count}
use Rattle.bits.specs.CountLaws.{ones-count}
use Rattle.order.specs.Total.{NotLess}
use Rattle.cells.specs.PigeonLaws.{and_agree}
use Rattle.cells.specs.CodesLaws.{number_lt, number-reading, number-apart, core_serves}
use Rattle.order.specs.Order.{table_order}
use Rattle.cells.specs.Core.{Cell, reading, Serves, core_of}
use Rattle.cells.specs.Written.{tables_of}
use Rattle.cells.specs.Codes.{row_of, code_of}
use Rattle.cells.specs.WrittenLaws.{reads_are_digits, same_tables_codes, core_code, core-reads}
use Rattle.problem.specs.Problem.{item}
use Rattle.relation.specs.Relation.{Conflict}
use Rattle.picking.specs.Picked.{Picked}
use Rattle.picking.specs.Best.{Suits, set_order, FirstRows}

module _ (cl codes budgets : List ℕ) (v m u : ℕ) (rows : ℕ → ℕ) (l : List Cell) (long : length l ≡ u)
    (same : tables_of v l ≡ tables_of v (core_of u rows (item codes))) (s : Serves v m (Conflict cl) (item budgets) l) (o : ℕ) (h : o < m) where
  row_low : row_of l o < 2 ^ u
  row_low = subst (λ (n : ℕ). row_of l o < 2 ^ n) long (number_lt (λ c. c.readers o) l)

  table-agrees : (x i : ℕ) → x < v → i < u → on (code_of l x) i ≡ on (item codes x) i
  table-agrees x i a b = ap (λ (n : ℕ). on n i) (same_tables_codes v x l (core_of u rows (item codes)) a same) ∙ core_code x i u rows (item codes) b

  -- what output o reads of cells that serve
  row_suits : Suits cl codes v o (item budgets o) (row_of l o)
  row_suits = record {
    few = subst (λ (n : ℕ). n ≤ item budgets o)
        (sym (ones-count u (row_of l o) row_low ∙ subst (λ (n : ℕ). count (on (row_of l o)) n ≡ reading o l) long (number-reading o l))) (s.within o h);
    none_left = record {
      none = λ x y a b k. number-apart o x y l (s.tells o x y h a b k.conflict) (λ i e. let d = below i e (dec_lt i u) in
          table-agrees x i a d ∙ and_agree u (row_of l o) (item codes x) (item codes y) k.agree i d e ∙ sym (table-agrees y i b d));
    };
  }
    where
      below : (i : ℕ) → on (row_of l o) i ≡ true → Dec (i < u) → i < u
      below i e (yes k) = k
      below i e (no k) = absurd (never_both e (on_above u (row_of l o) i row_low (omega arith)))

pub picked_of : (cl codes budgets : List ℕ) (v m u : ℕ) (r : List ℕ) → FirstRows cl codes budgets v u m r → Picked cl budgets v m u codes r
picked_of cl codes budgets v m u r f = record {
  low = λ o h. (f.done o h).low;
  serves = λ l long same s.
      let suits : (o : ℕ) → o < m → Suits cl codes v o (item budgets o) (item r o) =
      λ o h. (f.done o h).suits (row_of l o) (row_low cl codes budgets v m u (item r) l long same s o h) (row_suits cl codes budgets v m u (item r) l long same s o h) in
      core_serves u v m (Conflict cl) (item budgets) (item r) (item codes)
      (record { tells = λ o x y h a b c e. (suits o h).none_left.none x y a b (record { conflict = c; agree = e }) })
      (λ o h. (f.done o h).low)
      (λ o h. subst (λ (n : ℕ). n ≤ item budgets o) (ones-count u (item r o) (f.done o h).low) (suits o h).few);
  first = λ l o h long same s.
      let no_less : NotLess (set_order u (item r o) (row_of l o)) =
      (f.done o h).first (row_of l o) (row_low cl codes budgets v m u (item r) l long same s o h) (row_suits cl codes budgets v m u (item r) l long same s o h) in
      subst NotLess
      (sym (ap₂ table_order (core-reads o u (item r) (item codes)) (reads_are_digits o l ∙ ap (values_upto (on (row_of l o))) long))) no_less;
}
