-- A well_formed design is well formed with some of its outputs: its names and its limit stay, each output is right by itself, names that
-- differ still differ, and some output is left. Assumes nothing.
use Rattle.std.specs.Prelude.{◌≡◌, ℕ, ◌≤◌, length}
use Rattle.std.proofs.Common.{sym, ap, ◌∙◌, subst, arith}
use Rattle.names.specs.Name.{distinct}
use Rattle.sheet.specs.Lines.{Output}
use Rattle.sheet.specs.Examine.{Design, output_names}
use Rattle.sheet.specs.WellFormed.{RightOutput, RightOutputs, WellFormed}
use Rattle.subsets.specs.Subset.{selected, size, member_at, SomeOf}
use Rattle.subsets.specs.SubsetLaws.{member_below, size-most, some_size, selected-length, selected_at, selected-map}
use Rattle.selection.specs.Selection.{part}
use Rattle.selection.specs.SelectedNamesLaws.{selected-distinct}

outputs_right : (s : ℕ) (d : Design) → WellFormed d → RightOutputs d.inputs (selected s 0 d.outputs)
outputs_right s d w =
    let m = length d.outputs in
    let count : length (selected s 0 d.outputs) ≡ size m s = selected-length s d.outputs in
    let most : size m s ≤ m = size-most m s in
    record {
      few = omega (arith, w.outputs_right.few);
      once = ap distinct (selected-map (λ (o : Output). o.name) s 0 d.outputs)
          ∙ selected-distinct s 0 (output_names d.outputs) w.outputs_right.once;
      each = λ j h.
          subst (RightOutput d.inputs) (sym (selected_at s d.outputs j _ (omega arith)))
          (w.outputs_right.each (member_at m s j) (member_below m s j (omega arith)));
    }

pub part_well_formed : (s : ℕ) (d : Design) → WellFormed d → SomeOf (length d.outputs) s → WellFormed (part s d)
unfolding part
part_well_formed s d w p =
    let m = length d.outputs in
    let count : length (selected s 0 d.outputs) ≡ size m s = selected-length s d.outputs in
    let some : 1 ≤ size m s = some_size m s p in
    record {
      inputs_right = w.inputs_right;
      bound_right = w.bound_right;
      limit_right = w.limit_right;
      outputs_right = outputs_right s d w;
      some-output = omega arith;
    }
