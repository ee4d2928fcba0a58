-- How an outcome on a given sheet is known: a network sheet that is "same", as many cells as every core that serves has at
-- least, and no other count; and that it is the first, or the only one. Assumes nothing.
use Rattle.std.specs.Prelude.{◌≡◌, refl, false, List, ℕ, suc, ◌≤◌, ◌<◌, length}
use Rattle.std.proofs.Common.{sym, ap, ap₂, ◌∙◌, subst, arith, le_antisymm}
use Rattle.std.proofs.Math.Option.{none}
use Rattle.std.proofs.Math.Decide.{dec_lt}
use Rattle.std.proofs.lemmas.List.Edits.{sets}
use Rattle.limits.specs.Limits.{max_classes}
use Rattle.order.specs.Order.{before}
use Rattle.order.proofs.TotalLaws.{before_self}
use Rattle.sheet.specs.Examine.{Design, refused, valid, examine}
use Rattle.sheet.specs.WellFormed.{WellFormed}
use Rattle.sheet.specs.ExaminationLaws.{valid_well_formed}
use Rattle.classes.specs.Proper.{Proper}
use Rattle.classes.specs.ProperLaws.{proper_of}
use Rattle.classes.specs.Classes.{global_count}
use Rattle.classes.specs.Width.{budget}
use Rattle.network.specs.Network.{Network}
use Rattle.network.specs.Examine.{network, read_network, offending}
use Rattle.network.specs.Printer.{print_network}
use Rattle.network.specs.NetworkFor.{NetworkFor, Named}
use Rattle.network.specs.Answers.{WithinLimits, Computes, Drawn, read_count}
use Rattle.network.specs.Check.{compared}
use Rattle.network.specs.Check.{same}
use Rattle.network.specs.Value.{lut_at}
use Rattle.network.specs.NamedLaws.{design-named}
use Rattle.network.specs.CompareLaws.{compared_same}
use Rattle.network.specs.PrintedLaws.{drawn_wellformed, drawn_within}
use Rattle.serving.specs.NetworkCore.{network_core}
use Rattle.serving.specs.Tells.{core-length}
use Rattle.serving.proofs.Serves.{drawn_serves}
use Rattle.serving.specs.FullReads.{reads-width}
use Rattle.mapper.specs.Map.{Permitted, First, MapAnswer, refused_by, mapped, OutcomeFor, too_many_classes, no_network, buffer_short, written}
use Rattle.mapper.specs.FunctionLaws.{first_one}
use Rattle.demands.specs.Each.{each_below}
use Rattle.demands.specs.NeededCells.{AtLeast}
use Rattle.demands.specs.FirstTest.{Ask, Tested, Plain}
use Rattle.demands.specs.FirstTestLaws.{first_tested, plain_unproduced}
use Rattle.demands.specs.OutcomeLaws.{outcome_for, outcome_refused, outcome_of, refusal_outcome}
use Rattle.demands.specs.Worked.{HasOutcome, Refuses, Prints}

least_network : (s : List ℕ) (d : Design) (u : ℕ)
    → examine s ≡ valid d
    → AtLeast u d
    → (v : Network)
    → NetworkFor d v
    → WithinLimits d v
    → Computes d v
    → u ≤ length v.luts
least_network s d u e least v f l c =
    subst (λ (n : ℕ). u ≤ n) (core-length v) (least.cells (network_core v) (drawn_serves d v (proper_of d (valid_well_formed s d e)) f l c))

-- ---- a sheet that needs more cells than its limit is refused by 8
module _ (s : List ℕ) (d : Design) (e : examine s ≡ valid d) (few : global_count d d.bound ≤ max_classes) (least : AtLeast (suc d.limit) d) where
  pub none_within : (v : Network) → NetworkFor d v → WithinLimits d v → Computes d v → ⊥
  none_within v f l c =
      let h = least_network s d (suc d.limit) e least v f l c in
      let k = l.luts-within in
      omega (arith, h, k)

  says_8 : {b : List ℕ} {a : MapAnswer} {b' : List ℕ} → OutcomeFor d b a b' → (a ≡ refused_by 8 0) × (b' ≡ b)
  says_8 (too_many_classes h) = absurd (omega (arith, h, few))
  says_8 (no_network h n) = (refl, refl)
  says_8 (buffer_short v h p n) = absurd (none_within v p.permitted.wellformed p.permitted.within p.permitted.computes)
  says_8 (written v h p n) = absurd (none_within v p.permitted.wellformed p.permitted.within p.permitted.computes)

  pub refuses_8 : Refuses s 8 0
  refuses_8 =
      record {
        has_outcome = λ b. record { answer = refused_by 8 0; buffer = b; is_outcome = outcome_of d e (no_network few none_within) };
        answers = λ b a b' o. (says_8 (outcome_for d e o)).0;
        untouched = λ b a b' o. (says_8 (outcome_for d e o)).1;
      }

-- ---- a sheet with a network that is "same" and has no more cells than it needs is mapped
pub record Fewest (s t : List ℕ) (d : Design) (w : Network) : Type 0 where
  pub is_valid : examine s ≡ valid d
  pub drawn : Drawn d t w
  pub right : compared d w ≡ same
  pub few : global_count d d.bound ≤ max_classes
  pub least : AtLeast (length w.luts) d

pub fewest_of : {s t : List ℕ} {d : Design} {w : Network}
    → examine s ≡ valid d
    → read_network d t ≡ network w
    → offending d w ≡ none
    → compared d w ≡ same
    → global_count d d.bound ≤ max_classes
    → AtLeast (length w.luts) d
    → Fewest s t d w
fewest_of e f g h k l =
    record {
      is_valid = e;
      drawn = record { is_read = f; passes = g };
      right = h;
      few = k;
      least = l;
    }

module _ (s t : List ℕ) (d : Design) (w : Network) (x : Fewest s t d w) where
  e : examine s ≡ valid d
  e = x.is_valid

  formed : WellFormed d
  formed = valid_well_formed s d e

  proper : Proper d
  proper = proper_of d formed

  named : Named d
  named = design-named d formed

  well : NetworkFor d w
  well = drawn_wellformed d w named t x.drawn

  inside : WithinLimits d w
  inside = drawn_within d w named t x.drawn

  drawn_computes : Computes d w
  drawn_computes = compared_same d w x.right

  pub count_of : (v : Network) → Permitted d v → length v.luts ≡ length w.luts
  count_of v p =
      le_antisymm (p.fewest w well inside drawn_computes)
      (least_network s d (length w.luts) e x.least v p.wellformed p.within p.computes)

  pub reads_of : (v : Network) → Permitted d v → (o : ℕ) → o < length d.outputs → read_count v o ≡ budget d d.bound o
  reads_of v p = reads-width d v proper p.wellformed p.within p.computes

  -- ---- a network whose tables are 0 at vertex 0, with 0 in the entries of codes that no vertex has, is permitted
  pub plain_permitted : Plain d w → Permitted d w
  plain_permitted p =
      record {
        wellformed = well;
        within = inside;
        computes = drawn_computes;
        fewest = least_network s d (length w.luts) e x.least;
        zero_first = each_below (length w.luts) (λ (i : ℕ). lut_at w i 0 ≡ false) p.zero_first;
        unproduced = λ o j h g. plain_unproduced d w o j p h g;
      }

  -- where it passes the test, it is the first
  tested_first : (n : ℕ) (ks : List Ask) → Plain d w → Tested d n w ks → First d w
  tested_first n ks p k = first_tested d formed n w ks (plain_permitted p) k

  -- and where no other is permitted
  only_first : Plain d w → ((v : Network) → Permitted d v → v ≡ w) → First d w
  only_first p only =
      record {
        permitted = plain_permitted p;
        none_before = λ v q.
            ap (λ (u : Network). before (print_network d u) (print_network d w)) (only v q) ∙ before_self (print_network d w);
      }

  -- ---- where the sheet is the first network's print, it is what is written
  module _ (printed : t ≡ print_network d w) (first : First d w) where
    text_of_lem : (v : Network) → First d v → print_network d v ≡ t
    text_of_lem v p = (first_one d v w p first).0 ∙ sym printed

    length_of : (v : Network) → First d v → length (print_network d v) ≡ length t
    length_of v p = ap length (text_of_lem v p)

    says_mapped : {b : List ℕ} {a : MapAnswer} {b' : List ℕ}
        → length t ≤ length b
        → OutcomeFor d b a b'
        → (a ≡ mapped (length w.luts) (length t)) × (b' ≡ sets b 0 t)
    says_mapped k (too_many_classes h) = let f = x.few in absurd (omega (arith, h, f))
    says_mapped k (no_network h n) = absurd (n w well inside drawn_computes)
    says_mapped k (buffer_short v h p n) = let g = length_of v p in absurd (omega (arith, g, n, k))
    says_mapped {b = b} k (written v h p n) = (ap₂ mapped (count_of v p.permitted) (length_of v p), ap (sets b 0) (text_of_lem v p))

    says_short : {b : List ℕ} {a : MapAnswer} {b' : List ℕ} → length b < length t → OutcomeFor d b a b' → (a ≡ refused_by 9 0) × (b' ≡ b)
    says_short k (too_many_classes h) = let f = x.few in absurd (omega (arith, h, f))
    says_short k (no_network h n) = absurd (n w well inside drawn_computes)
    says_short k (buffer_short v h p n) = (refl, refl)
    says_short k (written v h p n) = let g = length_of v p in absurd (omega (arith, g, n, k))

    some_outcome : (b : List ℕ) → HasOutcome (examine s) b
    some_outcome b =
        let n = length_of w first in
        elim (dec_lt (length b) (length t)) as (λ _. HasOutcome (examine s) b) [
          | yes h ↦ record { answer = _; buffer = _; is_outcome = outcome_of d e (buffer_short w x.few first (omega (arith, n, h))) }
          | no g ↦ record { answer = _; buffer = _; is_outcome = outcome_of d e (written w x.few first (omega (arith, n, g))) }
        ]

    prints_first : Prints s (length w.luts) t
    prints_first =
        record {
          maps =
              record {
                has_outcome = some_outcome;
                answers = λ b a b' k o. (says_mapped k (outcome_for d e o)).0;
                short = λ b a b' k o. (says_short k (outcome_for d e o)).0;
                untouched = λ b a b' k o. (says_short k (outcome_for d e o)).1;
              };
          writes = λ b a b' k o. (says_mapped k (outcome_for d e o)).1;
        }

  -- since it is the only one that is permitted
  pub prints_only : t ≡ print_network d w → Plain d w → ((v : Network) → Permitted d v → v ≡ w) → Prints s (length w.luts) t
  prints_only printed p only = prints_first printed (only_first p only)

  -- since it passes the test
  pub prints_tested : t ≡ print_network d w → (n : ℕ) (ks : List Ask) → Plain d w → Tested d n w ks → Prints s (length w.luts) t
  prints_tested printed n ks p k = prints_first printed (tested_first n ks p k)

-- ---- a sheet that the examination refuses
pub refuses_sheet : (s : List ℕ) (q l : ℕ) → examine s ≡ refused q l → Refuses s q l
refuses_sheet s q l e =
    record {
      has_outcome = λ b. record { answer = refused_by q l; buffer = b; is_outcome = refusal_outcome q l b e };
      answers = λ b a b' o. (outcome_refused q l e o).refusal;
      untouched = λ b a b' o. (outcome_refused q l e o).untouched;
    }
