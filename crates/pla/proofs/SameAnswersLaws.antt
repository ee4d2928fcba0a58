-- On designs with the same tables Table and Check answer the same, Map has the same outcomes, and a refusal by 8 the same cause; and
-- so a pair gets the answers of a sheet with the same tables. Assumes nothing.
use Rattle.std.specs.Prelude.{◌≡◌, false, List, ℕ, ◌≤◌, ◌<◌, length}
use Rattle.std.proofs.Common.{sym, ap, ◌∙◌, subst}
use Rattle.std.proofs.lemmas.List.Edits.{sets}
use Rattle.limits.specs.Limits.{max_classes}
use Rattle.order.specs.Order.{before}
use Rattle.sheet.specs.Lines.{Output}
use Rattle.sheet.specs.Examine as sheets
use Rattle.sheet.specs.Examine.{Design, Examined, valid, output_names, with_outputs}
use Rattle.design.specs.Tabulate.{table_of}
use Rattle.classes.specs.Classes.{global_count}
use Rattle.network.specs.Network.{Network}
use Rattle.network.specs.Printer.{print_network}
use Rattle.network.specs.NetworkFor.{NetworkFor}
use Rattle.network.specs.Answers.{WithinLimits, Computes}
use Rattle.network.specs.Check.{check_of}
use Rattle.mapper.specs.Map.{Permitted, First, MapAnswer, mapped, OutcomeFor, too_many_classes, no_network, buffer_short, written}
use Rattle.panel.specs.Examine as panels
use Rattle.pla.specs.SameTables.{SameTables, SameAnswers}
use Rattle.pla.specs.SameTablesLaws.{SameValues, global_same, print_same, table_same, check_same}
use Rattle.pla.proofs.SameNetworksLaws.{formed_same, within_same, is_output, computes_same, values_back}
use Rattle.pla.proofs.SameNetworksLaws.{second_is, second_values, tables_back}
use Rattle.pla.proofs.SameCauseLaws.{cause_same}

-- ---- Map on two designs that differ in their formulas alone
module _ (d : Design) (ps : List Output) (names : output_names d.outputs ≡ output_names ps) (values : SameValues d ps) where
  formed_back : (w : Network) → NetworkFor (with_outputs d ps) w → NetworkFor d w
  formed_back w h = formed_same (with_outputs d ps) d.outputs (sym names) (values_back d ps names values) w h

  within_back : (w : Network) → WithinLimits (with_outputs d ps) w → WithinLimits d w
  within_back w h = within_same (with_outputs d ps) d.outputs (sym names) (values_back d ps names values) w h

  computes_back : (w : Network) → Computes (with_outputs d ps) w → Computes d w
  computes_back w h = computes_same (with_outputs d ps) d.outputs (sym names) (values_back d ps names values) w h

  permitted_same : (w : Network) → Permitted d w → Permitted (with_outputs d ps) w
  permitted_same w p =
      record {
        wellformed = formed_same d ps names values w p.wellformed;
        within = within_same d ps names values w p.within;
        computes = computes_same d ps names values w p.computes;
        fewest = λ v f l c. p.fewest v (formed_back v f) (within_back v l) (computes_back v c);
        zero_first = p.zero_first;
        unproduced = λ o j h g. p.unproduced o j (is_output d ps names values o h) g;
      }

module _ (d : Design) (ps : List Output) (names : output_names d.outputs ≡ output_names ps) (values : SameValues d ps) where
  permitted_back : (w : Network) → Permitted (with_outputs d ps) w → Permitted d w
  permitted_back w p = permitted_same (with_outputs d ps) d.outputs (sym names) (values_back d ps names values) w p

  printed : (w : Network) → print_network d w ≡ print_network (with_outputs d ps) w
  printed = print_same d ps names values

  first_same : (w : Network) → First d w → First (with_outputs d ps) w
  first_same w f =
      record {
        permitted = permitted_same d ps names values w f.permitted;
        none_before = λ v p.
            subst (λ (t : List ℕ). before t (print_network (with_outputs d ps) w) ≡ false) (printed v)
            (subst (λ (t : List ℕ). before (print_network d v) t ≡ false) (printed w) (f.none_before v (permitted_back v p)));
      }

  few_same : global_count d d.bound ≤ max_classes → global_count (with_outputs d ps) d.bound ≤ max_classes
  few_same h = subst (λ (n : ℕ). n ≤ max_classes) (global_same d ps names values d.bound) h

  outcome_same : {b : List ℕ} {a : MapAnswer} {b' : List ℕ} → OutcomeFor d b a b' → OutcomeFor (with_outputs d ps) b a b'
  outcome_same (too_many_classes h) =
      too_many_classes (subst (λ (n : ℕ). max_classes < n) (global_same d ps names values d.bound) h)
  outcome_same (no_network h n) =
      no_network (few_same h)
      (λ w f l c.
      n w (formed_back d ps names values w f) (within_back d ps names values w l) (computes_back d ps names values w c))
  outcome_same {b = b} (buffer_short w h f n) =
      buffer_short w (few_same h) (first_same w f) (subst (λ (t : List ℕ). length b < length t) (printed w) n)
  outcome_same {b = b} (written w h f n) =
      subst (λ (t : List ℕ). OutcomeFor (with_outputs d ps) b (mapped (length w.luts) (length t)) (sets b 0 t)) (sym (printed w))
      (written w (few_same h) (first_same w f) (subst (λ (t : List ℕ). length t ≤ length b) (printed w) n))

-- ---- any two designs with the same tables
module _ {d e : Design} (h : SameTables d e) where
  table_for : (o : ℕ) (b : List ℕ) → table_of (valid d) o b ≡ table_of (valid e) o b
  table_for o b = table_same d e.outputs h.same_outputs (second_values h) o b ∙ ap (λ (x : Design). table_of (valid x) o b) (second_is h)

  check_for : (t : List ℕ) → check_of (valid d) t ≡ check_of (valid e) t
  check_for t = check_same d e.outputs h.same_outputs (second_values h) t ∙ ap (λ (x : Design). check_of (valid x) t) (second_is h)

  outcome_for : {b : List ℕ} {a : MapAnswer} {b' : List ℕ} → OutcomeFor d b a b' → OutcomeFor e b a b'
  outcome_for {b = b} {a = a} {b' = b'} x =
      subst (λ (y : Design). OutcomeFor y b a b') (second_is h) (outcome_same d e.outputs h.same_outputs (second_values h) x)

pub same_answers : {d e : Design} → SameTables d e → SameAnswers (valid d) (valid e)
same_answers h =
    record {
      table_same = table_for h;
      map_there = λ b a b' x. outcome_for h x;
      map_back = λ b a b' x. outcome_for (tables_back h) x;
      cause_there = cause_same h;
      cause_back = cause_same (tables_back h);
      check_same = check_for h;
    }

-- ---- a pair and a sheet that say designs with the same tables
pub pair_as_sheet : (p s t : List ℕ) (d e : Design)
    → panels.examine p s ≡ valid d
    → sheets.examine t ≡ valid e
    → SameTables d e
    → SameAnswers (panels.examine p s) (sheets.examine t)
pair_as_sheet p s t d e f g h =
    subst (λ (x : Examined). SameAnswers x (sheets.examine t)) (sym f)
    (subst (λ (y : Examined). SameAnswers (valid d) y) (sym g) (same_answers h))
