-- The sheet that has only the `out` lines of the set writes the design with those outputs, the bound names spelled as they were,
-- and it is valid. Assumes nothing.
use Rattle.std.specs.Prelude.{◌≡◌, ℕ, ◌+◌, ◌≤◌, take, drop}
use Rattle.std.proofs.Common.{sym, ap₂, ◌∙◌, arith, take_at, drop_at, drop-drop}
use Rattle.std.proofs.Math.Path.{ap, subst}
use mathlib.Core.List.{List, [], ◌∷◌, ◌++◌, map}
use Rattle.std.proofs.Math.ListN.{length}
use Rattle.std.proofs.lemmas.List.{length-map}
use Rattle.limits.specs.Limits.{max_sheet}
use Rattle.text.specs.Line.{lines, ended_lines}
use Rattle.text.specs.EndedLaws.{ended_append_length}
use Rattle.names.specs.Name.{Name}
use Rattle.names.specs.Spelled.{same_names}
use Rattle.sheet.specs.Lines.{design_line, end_line, print_in, print_bound, print_limit, print_out}
use Rattle.sheet.specs.Examine.{Design, valid, examine, with_bound}
use Rattle.sheet.specs.Printer.{design_lines, print_design}
use Rattle.sheet.specs.Written.{Writes}
use Rattle.sheet.specs.DesignReadLaws.{design_print_of_read}
use Rattle.sheet.specs.DesignPrintLaws.{print_lines, design_read_of_print}
use Rattle.subsets.specs.Subset.{selected, SomeOf}
use Rattle.subsets.specs.SubsetLaws.{selected-map}
use Rattle.selection.specs.Selection.{part, head_lines, only_outs}
use Rattle.selection.specs.PartLaws.{part-bound}
use Rattle.selection.specs.PartRightLaws.{part_well_formed}
use Rattle.selection.specs.FewerLinesLaws.{fewer_lines}

-- ---- the lines of a sheet: those before the `out` lines, the `out` lines, those after
abbrev kept : ℕ → ℕ → List (List ℕ) → List (List ℕ)
kept s m ls = take head_lines ls ++ (selected s 0 (take m (drop head_lines ls)) ++ drop (head_lines + m) ls)

kept-lines : (s m : ℕ) (before outs after : List (List ℕ))
    → length before ≡ head_lines
    → length outs ≡ m
    → kept s m (before ++ (outs ++ after)) ≡ before ++ (selected s 0 outs ++ after)
kept-lines s m before outs after h n =
    let ls = before ++ (outs ++ after) in
    let past : drop head_lines ls ≡ outs ++ after = drop_at before (outs ++ after) head_lines h in
    let these : take m (drop head_lines ls) ≡ outs = ap (take m) past ∙ take_at outs after m n in
    let those : drop (head_lines + m) ls ≡ after = sym (drop-drop m head_lines ls) ∙ ap (drop m) past ∙ drop_at outs after m n in
    ap₂ (λ (p q : List (List ℕ)). p ++ q) (take_at before (outs ++ after) head_lines h)
    (ap₂ (λ (p q : List (List ℕ)). selected s 0 p ++ q) these those)

abbrev head_of : Design → List (List ℕ)
head_of d = design_line ∷ print_in d.inputs ∷ print_bound d.bound ∷ print_limit d.limit ∷ []

part-lines : (s : ℕ) (d : Design) → kept s (length d.outputs) (design_lines d) ≡ design_lines (part s d)
unfolding design_lines part
part-lines s d =
    let outs = map print_out d.outputs in
    kept-lines s (length d.outputs) (head_of d) outs (end_line ∷ []) (omega arith) (length-map d.outputs print_out)
    ∙ ap (λ (p : List (List ℕ)). head_of d ++ (p ++ (end_line ∷ []))) (sym (selected-map print_out s 0 d.outputs))

-- ---- fewer `out` lines are no longer
part_print_most : (s : ℕ) (d : Design) → length (print_design (part s d)) ≤ length (print_design d)
unfolding print_design design_lines part
part_print_most s d =
    let outs = map print_out d.outputs in
    let some = map print_out (selected s 0 d.outputs) in
    let fewer : length (ended_lines some) ≤ length (ended_lines outs)
    = subst (λ (ls : List (List ℕ)). length (ended_lines ls) ≤ length (ended_lines outs)) (sym (selected-map print_out s 0 d.outputs))
    (fewer_lines s 0 outs) in
    omega (
      arith,
      fewer,
      ended_append_length (head_of d) (outs ++ (end_line ∷ [])),
      ended_append_length outs (end_line ∷ []),
      ended_append_length (head_of d) (some ++ (end_line ∷ [])),
      ended_append_length some (end_line ∷ []),
    )

-- ---- the sheet
module _ (t : List ℕ) (d : Design) (s : ℕ) (w : Writes t d) where
  kept_printed : ended_lines (kept s (length d.outputs) (lines t)) ≡ print_design (with_bound (part s d) w.written)
  unfolding print_design part
  kept_printed =
      ap (λ (ls : List (List ℕ)). ended_lines (kept s (length d.outputs) ls))
      (ap lines w.is_print ∙ print_lines d w.written w.well_formed w.same-bound)
      ∙ ap ended_lines (part-lines s (with_bound d w.written))

  kept_fits : length (print_design (with_bound (part s d) w.written)) ≤ max_sheet
  unfolding part
  kept_fits =
      let all = with_bound d w.written in
      let whole : length (print_design all) ≤ max_sheet = subst (λ (u : List ℕ). length u ≤ max_sheet) w.is_print w.fits in
      let most : length (print_design (part s all)) ≤ length (print_design all) = part_print_most s all in
      omega arith

  part_written : SomeOf (length d.outputs) s → (u : List ℕ) → u ≡ print_design (with_bound (part s d) w.written) → Writes u (part s d)
  part_written p u e =
      record {
        well_formed = part_well_formed s d w.well_formed p;
        written = w.written;
        same-bound = ap (λ (ns : List Name). same_names ns w.written) (part-bound s d) ∙ w.same-bound;
        is_print = e;
        fits = subst (λ (v : List ℕ). length v ≤ max_sheet) (sym e) kept_fits;
      }

  only_outs_printed : only_outs s (length d.outputs) t ≡ print_design (with_bound (part s d) w.written)
  unfolding only_outs
  only_outs_printed = kept_printed

  only_outs_fits : length (only_outs s (length d.outputs) t) ≤ max_sheet
  unfolding only_outs
  only_outs_fits = subst (λ (v : List ℕ). length v ≤ max_sheet) (sym kept_printed) kept_fits

  only_outs_written : SomeOf (length d.outputs) s → Writes (only_outs s (length d.outputs) t) (part s d)
  unfolding only_outs
  only_outs_written p = part_written p (ended_lines (kept s (length d.outputs) (lines t))) kept_printed

module _ (t : List ℕ) (d : Design) (e : examine t ≡ valid d) (s : ℕ) where
  pub only_outs_valid : SomeOf (length d.outputs) s → examine (only_outs s (length d.outputs) t) ≡ valid (part s d)
  unfolding only_outs
  only_outs_valid p =
      let w : Writes t d = design_print_of_read t d e in
      let sheet = only_outs s (length d.outputs) t in
      design_read_of_print sheet (part s d) (part_written t d s w p sheet (kept_printed t d s w))
