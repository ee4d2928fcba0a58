-- For every refusal of Table, Map, Check and Export by the number of a line and on a line that its sheet has, the part that is
-- handed back is the line at which the examination stopped. Assumes nothing.
use Rattle.std.specs.Prelude.{◌≡◌, Bool, true, false, List, ℕ, ◌≤◌, leb, ltb, length}
use Rattle.std.proofs.Math.Path.{refl, ap₂}
use Rattle.std.proofs.Common.{sym, ap, subst, ◌∙◌, ⊎_elim, arith}
use Rattle.std.proofs.Math.Option.{Option, some, none}
use Rattle.std.proofs.lemmas.List.Edits.{sets}
use Rattle.bits.specs.Logic.{pick}
use Rattle.text.specs.Line.{lines}
use Rattle.sheet.specs.Examine.{Design, Examined, refused, valid, examine}
use Rattle.sheet.specs.ExaminationLaws.{refused_right, valid_well_formed}
use Rattle.design.specs.Tabulate as table
use Rattle.design.specs.Tabulate.{table_of, tabulate, row_count, table_digits}
use Rattle.mapper.specs.Map as map
use Rattle.mapper.specs.Map.{MapAnswer, OutcomeFor, OutcomeOf, Outcome}
use Rattle.network.specs.Network.{Network}
use Rattle.network.specs.Examine.{Answer, bad_line, network, read_network, offending}
use Rattle.network.specs.Check as check
use Rattle.network.specs.Check.{Pair, refused_pair, pair, judge, beside, compared, compare_pair, examine_pair, check_of}
use Rattle.network.specs.CompareLaws.{same_or_differs}
use Rattle.network.specs.NamedLaws.{design-named}
use Rattle.blif.specs.Printer.{print_blif}
use Rattle.blif.specs.Export as blif
use Rattle.blif.specs.Export.{put_text, export_pair, export_of, export}
use Rattle.locate.specs.Located.{part_of, located}
use Rattle.locate.specs.LineLaws.{has_line_lem}
use Rattle.locate.specs.NumberLaws as number
use Rattle.reports.specs.Stopped.{NamesLine, of_design, of_network, Stopped, in_design, misspelled, over_limit}
use Rattle.reports.specs.RefusalLaws.{pair_number, pair_line, pair_refused, table-number, table_line, table-refused}
use Rattle.reports.specs.RefusalLaws.{map-number, map_line, map-refused, check-number, check_line, same-refused, differs_refused}
use Rattle.reports.specs.RefusalLaws.{export-number, export_line, export-refused}
use Rattle.reports.specs.SheetStopLaws.{sheet_stop}
use Rattle.reports.specs.NetworkStopLaws.{network_stop}
use Rattle.reports.specs.LimitStopLaws.{limit_stop}

-- ---- what the examinations answer
module _ (s t : List ℕ) (q l : ℕ) where
  abbrev Right : Type 0
  Right = Stopped s t q l (located s t q l)

  design_stopped : examine s ≡ refused q l → 2 ≤ q → q ≤ 5 → 1 ≤ l → l ≤ length (lines s) → Right
  design_stopped e a b i j =
      subst (Stopped s t q l) (sym (number.in_design s t q l a (omega arith)))
      (in_design a b refl (sheet_stop false s q l e a (has_line_lem s l i j)))

  -- a design sheet is refused by 1 to 5
  examined_stopped : examine s ≡ refused q l → NamesLine s t q l → Right
  examined_stopped e (of_design a b i j) = design_stopped e a b i j
  examined_stopped e (of_network a b i j) = absurd (omega (arith, (refused_right s q l e).at_most_five))

  network_part : 10 ≤ q → q ≤ 11 → Stopped s t q l (part_of true t l) → Right
  network_part a b x = subst (Stopped s t q l) (sym (number.in_network s t q l a (omega arith))) x

  module _ (d : Design) (v : examine s ≡ valid d) where
    misspelled_stopped : read_network d t ≡ bad_line l → q ≡ 10 → NamesLine s t q l → Right
    misspelled_stopped r e (of_design a b i j) = absurd (omega arith)
    misspelled_stopped r e (of_network a b i j) = network_part a b (misspelled d v e refl (network_stop true d t l r (has_line_lem t l i j)))

    over_stopped : (w : Network) → read_network d t ≡ network w → offending d w ≡ some l → q ≡ 11 → Right
    over_stopped w r o e =
        network_part (omega arith) (omega arith)
        (over_limit d v e refl (limit_stop true d t w l (design-named d (valid_well_formed s d v)) r o))

    judged_stopped : (w : Network) → read_network d t ≡ network w → (x : Option ℕ) → offending d w ≡ x → judge d w x ≡ refused_pair q l → Right
    judged_stopped w r (some m) o e =
        over_stopped w r (o ∙ ap some (pair_line e)) (sym (pair_number e))
    judged_stopped w r none o e = absurd (pair_refused e)

    beside_stopped : (x : Answer) → read_network d t ≡ x → beside d x ≡ refused_pair q l → NamesLine s t q l → Right
    beside_stopped (bad_line m) r e n = misspelled_stopped (r ∙ ap bad_line (pair_line e)) (sym (pair_number e)) n
    beside_stopped (network w) r e n = judged_stopped w r (offending d w) refl e

  pair_stopped : examine_pair (examine s) t ≡ refused_pair q l → NamesLine s t q l → Right
  unfolding examine_pair
  pair_stopped e n = go (examine s) refl e
    where
      go : (x : Examined) → examine s ≡ x → examine_pair x t ≡ refused_pair q l → Right
      go (refused r m) f g = examined_stopped (f ∙ ap₂ refused (pair_number g) (pair_line g)) n
      go (valid d) f g = beside_stopped d f (read_network d t) refl g n

-- questions 6 to 9 name no line
no_line_named : {s t : List ℕ} {q l : ℕ} → NamesLine s t q l → 6 ≤ q → q ≤ 9 → ⊥
no_line_named (of_design a b i j) h k = omega arith
no_line_named (of_network a b i j) h k = omega arith

-- ---- Table
valid_table : (d : Design) (o : ℕ) (b : List ℕ) (q l : ℕ) → (table_of (valid d) o b).answer ≡ table.refused_by q l → (6 ≤ q) × (q ≤ 9)
unfolding table_of
valid_table d o b q l e = go (ltb o (length d.outputs)) (leb (row_count d) (length b)) e
  where
    go : (x y : Bool)
        → (pick x (pick y (record { answer = table.written (row_count d); buffer = sets b 0 (table_digits d o) }) (table.untouched 9 0 b)) (table.untouched 6 0 b)).answer
        ≡ table.refused_by q l
        → (6 ≤ q) × (q ≤ 9)
    go true true e = absurd (table-refused e)
    go true false e =
        let h = table-number e in
        (omega arith, omega arith)
    go false y e =
        let h = table-number e in
        (omega arith, omega arith)

pub table_stopped : (s t : List ℕ) (o : ℕ) (b : List ℕ) (q l : ℕ)
    → (tabulate s o b).answer ≡ table.refused_by q l
    → NamesLine s t q l
    → Stopped s t q l (located s t q l)
unfolding tabulate table_of
table_stopped s t o b q l e n = go (examine s) refl e
  where
    go : (x : Examined) → examine s ≡ x → (table_of x o b).answer ≡ table.refused_by q l → Stopped s t q l (located s t q l)
    go (refused r m) f g = examined_stopped s t q l (f ∙ ap₂ refused (table-number g) (table_line g)) n
    go (valid d) f g =
        let (h, k) = valid_table d o b q l g in
        absurd (no_line_named n h k)

-- ---- Map
valid_map : {d : Design} {b : List ℕ} {a : MapAnswer} {b' : List ℕ} (q l : ℕ) → OutcomeFor d b a b' → a ≡ map.refused_by q l → (6 ≤ q) × (q ≤ 9)
valid_map q l (map.too_many_classes m) e =
    let h = map-number e in
    (omega arith, omega arith)
valid_map q l (map.no_network m u) e =
    let h = map-number e in
    (omega arith, omega arith)
valid_map q l (map.buffer_short w m p x) e =
    let h = map-number e in
    (omega arith, omega arith)
valid_map q l (map.written w m p x) e = absurd (map-refused e)

pub map_stopped : (s t b b' : List ℕ) (q l : ℕ) → Outcome s b (map.refused_by q l) b' → NamesLine s t q l → Stopped s t q l (located s t q l)
map_stopped s t b b' q l o n = go (examine s) refl o
  where
    go : (x : Examined) → examine s ≡ x → OutcomeOf x b (map.refused_by q l) b' → Stopped s t q l (located s t q l)
    go (refused r m) f g = examined_stopped s t q l (f ∙ ap₂ refused (sym (map-number g.refusal)) (sym (map_line g.refusal))) n
    go (valid d) f g =
        let (h, k) = valid_map q l g refl in
        absurd (no_line_named n h k)

-- ---- Check
not-compared : (d : Design) (w : Network) (q l : ℕ) → compared d w ≡ check.refused_by q l → ⊥
not-compared d w q l e = ⊎_elim (λ f. same-refused (sym f ∙ e)) (λ (o, r, f). differs_refused (sym f ∙ e)) (same_or_differs d w)

pub check_stopped : (s t : List ℕ) (q l : ℕ) → check.check s t ≡ check.refused_by q l → NamesLine s t q l → Stopped s t q l (located s t q l)
unfolding check.check check_of
check_stopped s t q l e n = go (examine_pair (examine s) t) refl e
  where
    go : (p : Pair) → examine_pair (examine s) t ≡ p → compare_pair p ≡ check.refused_by q l → Stopped s t q l (located s t q l)
    go (refused_pair r m) f g = pair_stopped s t q l (f ∙ ap₂ refused_pair (check-number g) (check_line g)) n
    go (pair d w) f g = absurd (not-compared d w q l g)

-- ---- Export
valid_export : (x b : List ℕ) (q l : ℕ) → (put_text x b).answer ≡ blif.refused_by q l → q ≡ 9
unfolding put_text
valid_export x b q l e = go (leb (length x) (length b)) e
  where
    go : (y : Bool) → (pick y (blif.wrote x b) (blif.untouched 9 0 b)).answer ≡ blif.refused_by q l → q ≡ 9
    go true e = absurd (export-refused e)
    go false e = sym (export-number e)

pub export_stopped : (s t b : List ℕ) (q l : ℕ)
    → (export s t b).answer ≡ blif.refused_by q l
    → NamesLine s t q l
    → Stopped s t q l (located s t q l)
unfolding export export_of
export_stopped s t b q l e n = go (examine_pair (examine s) t) refl e
  where
    go : (p : Pair) → examine_pair (examine s) t ≡ p → (export_pair p b).answer ≡ blif.refused_by q l → Stopped s t q l (located s t q l)
    go (refused_pair r m) f g = pair_stopped s t q l (f ∙ ap₂ refused_pair (export-number g) (export_line g)) n
    go (pair d w) f g =
        let h = valid_export (print_blif d w) b q l g in
        absurd (no_line_named n (omega arith) (omega arith))
