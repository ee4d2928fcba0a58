-- Demand 2 holds of every outcome on a well_formed design, and so on every sheet that says one. Assumes nothing.
use Rattle.std.specs.Prelude.{◌≡◌, Bool, List, ℕ, ◌≤◌, ◌<◌}
use Rattle.std.proofs.Math.Path.{refl, sym, subst}
use Rattle.std.proofs.Common.{◌∙◌, arith, ltb-true, leb-true}
use Rattle.std.proofs.Math.Bool.{true, false}
use Rattle.std.proofs.Math.Dec.{leb, ltb}
use Rattle.std.proofs.Math.ListN.{length}
use Rattle.std.proofs.lemmas.List.Edits.{sets}
use Rattle.std.proofs.Math.Seq.{length-sets}
use Rattle.bits.specs.Logic.{pick}
use Rattle.rows.specs.DigitLaws.{length_digits, digits_at}
use Rattle.sheet.specs.Examine.{Design, Examined, valid, examine}
use Rattle.sheet.specs.Value.{output_on}
use Rattle.sheet.specs.WellFormed.{WellFormed}
use Rattle.sheet.specs.ExaminationLaws.{valid_well_formed}
use Rattle.design.specs.Tabulate as tables
use Rattle.design.specs.Tabulate.{Tabulated, table_of, table_digits, row_count, untouched}
use Rattle.network.specs.Printer.{print_network}
use Rattle.network.specs.CheckLaws.{check_compares, same_check}
use Rattle.network.specs.CompareLaws.{compared_same}
use Rattle.emit.specs.StoredLaws.{stored_text, stored_at, stored_after}
use Rattle.mapper.specs.Map.{MapAnswer, mapped, OutcomeFor, too_many_classes, no_network, buffer_short, written, OutcomeOf, Outcome}
use Rattle.demands.specs.OutcomeLaws.{outcome_for}
use Rattle.demands.specs.Demand2.{TableRight, RightNetwork, MapRight, Demand2}
use Rattle.demands.specs.Demand3Laws.{mapped_not_refused, mapped_length, permitted_drawn}

-- ---- Table
table_answered : {m n : ℕ} → tables.written m ≡ tables.written n → m ≡ n
table_answered e = cc

refused-written : {q l n : ℕ} → tables.refused_by q l ≡ tables.written n → ⊥
refused-written e = let z : ◌≡◌ {A = ℕ} 0 1 = cc in omega arith

module _ (d : Design) (o : ℕ) (b : List ℕ) where
  abbrev wrote : Tabulated
  wrote = record { answer = tables.written (row_count d); buffer = sets b 0 (table_digits d o) }

  wrote_right : (n : ℕ) → o < length d.outputs → row_count d ≤ length b → row_count d ≡ n → TableRight d o n b wrote.buffer
  unfolding table_digits
  wrote_right n h k e =
      let c = length_digits (output_on d o) (row_count d) in
      let fits : length (table_digits d o) ≤ length b = subst (λ (i : ℕ). i ≤ length b) (sym c) k in
      record {
        is_output = h;
        row_each = sym e;
        same_length = length-sets b 0 (table_digits d o);
        digit_is = λ r l.
            stored_at b (table_digits d o) fits r (subst (λ (i : ℕ). r < i) (sym c) l) ∙ digits_at (output_on d o) (row_count d) r l;
        later = λ i l. stored_after b (table_digits d o) fits i (subst (λ (j : ℕ). j ≤ i) (sym c) l);
      }

  table_right : (n : ℕ) → (table_of (valid d) o b).answer ≡ tables.written n → TableRight d o n b (table_of (valid d) o b).buffer
  unfolding table_of
  table_right n f = go (ltb o (length d.outputs)) refl (leb (row_count d) (length b)) refl f
    where
      go : (i : Bool)
          → ltb o (length d.outputs) ≡ i
          → (j : Bool)
          → leb (row_count d) (length b) ≡ j
          → (pick i (pick j wrote (untouched 9 0 b)) (untouched 6 0 b)).answer ≡ tables.written n
          → TableRight d o n b (pick i (pick j wrote (untouched 9 0 b)) (untouched 6 0 b)).buffer
      go false h j k f = absurd (refused-written f)
      go true h false k f = absurd (refused-written f)
      go true h true k f =
          wrote_right n (ltb-true o (length d.outputs) h) (leb-true (row_count d) (length b) k) (table_answered f)

-- ---- Map
map_right : (d : Design) (b : List ℕ) {a : MapAnswer} {b' : List ℕ} (u n : ℕ)
    → WellFormed d
    → OutcomeFor d b a b'
    → a ≡ mapped u n
    → MapRight d n b b'
map_right d b u n f (too_many_classes h) e = absurd (mapped_not_refused (sym e))
map_right d b u n f (no_network h k) e = absurd (mapped_not_refused (sym e))
map_right d b u n f (buffer_short w h p k) e = absurd (mapped_not_refused (sym e))
map_right d b u n f (written w h p k) e =
    let t = print_network d w in
    let right : RightNetwork d t = record { said = w; drawn = permitted_drawn d f w p.permitted; values = p.permitted.computes } in
    subst (λ (m : ℕ). MapRight d m b (sets b 0 t)) (mapped_length e)
    (record {
      writes = subst (RightNetwork d) (sym (stored_text b t k)) right;
      fits = k;
      same_length = length-sets b 0 t;
      later = stored_after b t k;
    })

design_demand_2 : (d : Design) (o : ℕ) (b : List ℕ) (a : MapAnswer) (b' : List ℕ)
    → WellFormed d
    → OutcomeFor d b a b'
    → Demand2 (valid d) d o b a b'
design_demand_2 d o b a b' f h =
    record {
      table_right = table_right d o b;
      map_right = λ u n e. map_right d b u n f h e;
      same_is_right = λ t w r e. compared_same d w (sym (check_compares d t w r) ∙ e);
      right_is_same = λ t w r c. same_check d t w r c;
    }

-- ======== Demand 2 for every examination's answer that is a well_formed design
pub demand_2 : (x : Examined) (d : Design) (o : ℕ) (b : List ℕ) (a : MapAnswer) (b' : List ℕ)
    → x ≡ valid d
    → WellFormed d
    → OutcomeOf x b a b'
    → Demand2 x d o b a b'
demand_2 x d o b a b' e f h =
    subst (λ (y : Examined). Demand2 y d o b a b') (sym e) (design_demand_2 d o b a b' f (outcome_for d e h))

-- ======== and on sheets
pub sheet_demand_2 : (s : List ℕ) (d : Design) (o : ℕ) (b : List ℕ) (a : MapAnswer) (b' : List ℕ)
    → examine s ≡ valid d
    → Outcome s b a b'
    → Demand2 (examine s) d o b a b'
sheet_demand_2 s d o b a b' e h = demand_2 (examine s) d o b a b' e (valid_well_formed s d e) h
