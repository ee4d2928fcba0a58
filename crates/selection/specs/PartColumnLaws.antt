-- With some of its outputs a design has the values, the columns, the local classes and the widths of those outputs: output j of the part
-- is the member j of the set, with the same formula over the same names. Assumes nothing.
use Rattle.std.specs.Prelude.{◌≡◌, List, ℕ, ◌<◌, length}
use Rattle.std.proofs.Math.Path.{ap, ap₂}
use Rattle.bits.specs.ValuesLaws.{values_same}
use Rattle.names.specs.Name.{Name}
use Rattle.formula.specs.Value.{value, on_row}
use Rattle.sheet.specs.Lines.{Output}
use Rattle.sheet.specs.Examine.{Design}
use Rattle.sheet.specs.Value.{output_on}
use Rattle.classes.specs.Columns.{join_row, value_at, column, same_values, apart, conflict, alike, vertex_count, free_count}
use Rattle.classes.specs.Classes.{local_count}
use Rattle.classes.specs.Width.{width_of, width, budget}
use Rattle.classes.specs.ClassLaws.{count-agrees}
use Rattle.subsets.specs.Subset.{size, member_at}
use Rattle.selection.specs.Selection.{part}
use Rattle.selection.specs.PartLaws.{part-output}

module _ (s : ℕ) (d : Design) (j : ℕ) (h : j < size (length d.outputs) s) where
  pub part-value : (r : ℕ) → output_on (part s d) j r ≡ output_on d (member_at (length d.outputs) s j) r
  unfolding output_on part
  part-value r = ap (λ (o : Output). value (on_row d.inputs r) o.formula) (part-output s d j h)

  part-column : (bs : List Name) (x : ℕ) → column (part s d) bs j x ≡ column d bs (member_at (length d.outputs) s j) x
  unfolding column value_at part
  part-column bs x =
      values_same (value_at (part s d) bs j x) (value_at d bs (member_at (length d.outputs) s j) x) (free_count d.inputs bs)
      (λ y l. part-value (join_row d.inputs bs x y))

  pub part-conflict : (bs : List Name) (x y : ℕ)
      → conflict (part s d) bs j x y ≡ conflict d bs (member_at (length d.outputs) s j) x y
  unfolding conflict
  part-conflict bs x y = ap₂ apart (part-column bs x) (part-column bs y)

  pub part-alike : (bs : List Name) (x y : ℕ) → alike (part s d) bs j x y ≡ alike d bs (member_at (length d.outputs) s j) x y
  unfolding alike
  part-alike bs x y = ap₂ same_values (part-column bs x) (part-column bs y)

  part_classes : (bs : List Name) → local_count (part s d) bs j ≡ local_count d bs (member_at (length d.outputs) s j)
  unfolding local_count
  part_classes bs =
      count-agrees (alike (part s d) bs j) (alike d bs (member_at (length d.outputs) s j)) (vertex_count bs)
      (λ x y a b. part-alike bs x y)

  part-width : (bs : List Name) → width (part s d) bs j ≡ width d bs (member_at (length d.outputs) s j)
  unfolding width
  part-width bs = ap width_of (part_classes bs)

  pub part-budget : (bs : List Name) → budget (part s d) bs j ≡ budget d bs (member_at (length d.outputs) s j)
  unfolding budget
  part-budget bs = part-width bs
