-- Each operation refuses by one of the numbers from 1 on, up to 11 on sheets, and so 0 says that no question was answered "no". It
-- is shown for what any examination answers whose own refusals are within a greatest number, and then for sheets.
-- Assumes nothing.
use Rattle.std.specs.Prelude.{◌≡◌, Bool, true, false, List, ℕ, ◌≤◌, leb, ltb, length}
use Rattle.std.proofs.Math.Path.{refl}
use Rattle.std.proofs.Common.{sym, subst, ⊎_elim}
use Rattle.std.proofs.Math.Option.{Option, some, none}
use native.Mathlib.Omega.{arith}
use Rattle.bits.specs.Logic.{pick}
use Rattle.refusal.specs.Number.{number_of}
use Rattle.refusal.specs.declared.Question.{Question}
use Rattle.sheet.specs.Examine.{Design, Examined, refused, valid, examine}
use Rattle.sheet.specs.ExaminationLaws.{refused_right}
use Rattle.design.specs.Tabulate.{Tabulated, table_of, tabulate, row_count, untouched}
use Rattle.mapper.specs.Map as map
use Rattle.mapper.specs.Map.{MapAnswer, OutcomeFor, OutcomeOf, Outcome}
use Rattle.network.specs.Network.{Network}
use Rattle.network.specs.Examine.{Answer, bad_line, network, read_network, offending}
use Rattle.network.specs.Check as check
use Rattle.network.specs.Check.{Pair, compared, judge, beside, compare_pair, check_of, examine_pair}
use Rattle.network.specs.CompareLaws.{same_or_differs}
use Rattle.blif.specs.Printer.{print_blif}
use Rattle.blif.specs.Export as blif
use Rattle.blif.specs.Export.{Exported, put_text, export_pair, export_of, export}
use Rattle.reports.specs.Numbers.{sheet_numbers, panel_numbers, IsNumber, TableNumber, MapNumber, CheckNumber, ExportNumber}

-- x refuses by a number up to `most`
abbrev pub Within : ℕ → Examined → Type 0
Within most x = (q l : ℕ) → x ≡ refused q l → IsNumber most q

-- ======== on what an examination answers
module _ {most : ℕ} (enough : sheet_numbers ≤ most) where
  -- ---- Table
  by_number : (b : Bool) (x y : Tabulated) → TableNumber most x.answer → TableNumber most y.answer → TableNumber most (pick b x y).answer
  by_number true x y h k = h
  by_number false x y h k = k

  pub table_of_number : (x : Examined) (o : ℕ) (b : List ℕ) → Within most x → TableNumber most (table_of x o b).answer
  unfolding table_of
  table_of_number (refused q l) o b h = h q l refl
  table_of_number (valid d) o b h =
      by_number (ltb o (length d.outputs)) _ (untouched 6 0 b)
      (by_number (leb (row_count d) (length b)) _ (untouched 9 0 b) tt (record { low = omega arith; high = omega arith }))
      (record { low = omega arith; high = omega arith })

  -- ---- Map
  design_map_number : {d : Design} {b : List ℕ} {a : MapAnswer} {b' : List ℕ} → OutcomeFor d b a b' → MapNumber most a
  design_map_number (map.too_many_classes m) = record { low = omega arith; high = omega arith }
  design_map_number (map.no_network f none-serves) = record { low = omega arith; high = omega arith }
  design_map_number (map.buffer_short w f p short) = record { low = omega arith; high = omega arith }
  design_map_number (map.written w f p long) = tt

  pub map_of_number : (x : Examined) (b : List ℕ) (a : MapAnswer) (b' : List ℕ) → Within most x → OutcomeOf x b a b' → MapNumber most a
  map_of_number (refused q l) b a b' h o = subst (MapNumber most) (sym o.refusal) (h q l refl)
  map_of_number (valid d) b a b' h o = design_map_number o

  -- ---- Check
  compare_number : (d : Design) (w : Network) → CheckNumber most (compared d w)
  compare_number d w =
      ⊎_elim
      (λ e. subst (CheckNumber most) (sym e) tt)
      (λ (o, r, e). subst (CheckNumber most) (sym e) tt)
      (same_or_differs d w)

  judge-number : (d : Design) (w : Network) (x : Option ℕ) → CheckNumber most (compare_pair (judge d w x))
  judge-number d w (some l) = record { low = omega arith; high = omega arith }
  judge-number d w none = compare_number d w

  network-number : (d : Design) (x : Answer) → CheckNumber most (compare_pair (beside d x))
  network-number d (bad_line l) = record { low = omega arith; high = omega arith }
  network-number d (network w) = judge-number d w (offending d w)

  pub check_of_number : (x : Examined) (t : List ℕ) → Within most x → CheckNumber most (check_of x t)
  unfolding check_of examine_pair
  check_of_number (refused q l) t h = h q l refl
  check_of_number (valid d) t h = network-number d (read_network d t)

  -- ---- Export: as Check refuses, or by 9
  either_number : (v : Bool) (x y : Exported) → ExportNumber most x.answer → ExportNumber most y.answer → ExportNumber most (pick v x y).answer
  either_number true x y h k = h
  either_number false x y h k = k

  put_number : (t b : List ℕ) → ExportNumber most (put_text t b).answer
  unfolding put_text
  put_number t b = either_number (leb (length t) (length b)) _ (blif.untouched 9 0 b) tt (record { low = omega arith; high = omega arith })

  pair_number : (p : Pair) (b : List ℕ) → CheckNumber most (compare_pair p) → ExportNumber most (export_pair p b).answer
  pair_number (check.refused_pair q l) b h = h
  pair_number (check.pair d w) b h = put_number (print_blif d w) b

  export_of_number : (x : Examined) (t b : List ℕ) → Within most x → ExportNumber most (export_of x t b).answer
  unfolding check_of export_of
  export_of_number x t b h = pair_number (examine_pair x t) b (check_of_number x t h)

-- ======== on sheets
-- a design sheet is refused by 1 to 5
sheet-number : {most : ℕ} → sheet_numbers ≤ most → (s : List ℕ) → Within most (examine s)
sheet-number enough s q l e =
    let h = refused_right s q l e in
    record { low = omega (arith, h.at_least_one); high = omega (arith, h.at_most_five) }

module _ {most : ℕ} (enough : sheet_numbers ≤ most) where
  pub table-number : (s : List ℕ) (o : ℕ) (b : List ℕ) → TableNumber most (tabulate s o b).answer
  unfolding tabulate
  table-number s o b = table_of_number enough (examine s) o b (sheet-number enough s)

  pub map-number : (s b : List ℕ) (a : MapAnswer) (b' : List ℕ) → Outcome s b a b' → MapNumber most a
  map-number s b a b' o = map_of_number enough (examine s) b a b' (sheet-number enough s) o

  pub check-number : (s t : List ℕ) → CheckNumber most (check.check s t)
  unfolding check.check
  check-number s t = check_of_number enough (examine s) t (sheet-number enough s)

  pub export-number : (s t b : List ℕ) → ExportNumber most (export s t b).answer
  unfolding export
  export-number s t b = export_of_number enough (examine s) t b (sheet-number enough s)

-- ======== every question that there is has one of the numbers, and so a refusal is never told as 0
pub question_number : (q : Question) → IsNumber panel_numbers (number_of q)
question_number Question.SheetBytes = record { low = omega arith; high = omega arith }
question_number Question.Spelling = record { low = omega arith; high = omega arith }
question_number Question.Ranges = record { low = omega arith; high = omega arith }
question_number Question.NewNames = record { low = omega arith; high = omega arith }
question_number Question.InputNames = record { low = omega arith; high = omega arith }
question_number Question.OutputNumber = record { low = omega arith; high = omega arith }
question_number Question.FewClasses = record { low = omega arith; high = omega arith }
question_number Question.EnoughCells = record { low = omega arith; high = omega arith }
question_number Question.BufferLength = record { low = omega arith; high = omega arith }
question_number Question.NetworkSpelling = record { low = omega arith; high = omega arith }
question_number Question.NetworkLimits = record { low = omega arith; high = omega arith }
question_number Question.PlaSpelling = record { low = omega arith; high = omega arith }
question_number Question.PlaRanges = record { low = omega arith; high = omega arith }
question_number Question.PlaMarks = record { low = omega arith; high = omega arith }
