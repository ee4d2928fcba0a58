-- A network within its widths that computes a design reads exactly width tables in each output: vertices of different
-- local classes differ in some table that the output reads, so it reads no fewer. Assumes nothing.
use Rattle.std.specs.Prelude.{◌≡◌, true, false, List, ℕ, ◌^◌, ◌≤◌, ◌<◌, length}
use Rattle.std.proofs.Common.{sym, ◌∙◌, subst, ⊎_elim, le_antisymm}
use Rattle.bits.specs.LogicLaws.{either}
use Rattle.names.specs.Name.{Name}
use Rattle.sheet.specs.Examine.{Design}
use Rattle.classes.specs.Columns.{vertex_count, free_count, value_at, conflict, alike}
use Rattle.classes.specs.Classes.{local_count}
use Rattle.classes.specs.Width.{width, budget}
use Rattle.classes.specs.Proper.{Proper}
use Rattle.classes.specs.Cases.{not_both}
use Rattle.classes.specs.ColumnLaws.{conflict_differ, no_conflict_agree, agree_same, alike_columns}
use Rattle.classes.specs.WidthLaws.{width_least}
use Rattle.network.specs.Network.{Network}
use Rattle.network.specs.Value.{lut_at}
use Rattle.network.specs.NetworkFor.{NetworkFor}
use Rattle.network.specs.Answers.{WithinLimits, Computes, read_count}
use Rattle.serving.specs.NetworkCore.{node_of}
use Rattle.serving.specs.Tells.{one-column}
use Rattle.serving.specs.TheoremA.{parts_of}
use Rattle.serving.specs.ClassCodes.{Told, classes_told}

-- vertices of different local classes conflict
pub unlike_conflict : (d : Design) (bs : List Name) (o x y : ℕ) → alike d bs o x y ≡ false → conflict d bs o x y ≡ true
unlike_conflict d bs o x y u =
    ⊎_elim
    (λ e. e)
    (λ e. absurd (not_both (alike d bs o x y) (related e) u))
    (either (conflict d bs o x y))
  where
    related : conflict d bs o x y ≡ false → alike d bs o x y ≡ true
    related e = alike_columns d bs o x y ∙ agree_same (value_at d bs o) (free_count d.inputs bs) x y (no_conflict_agree d bs o x y e)

module _ (d : Design) (w : Network) (proper : Proper d) (c : Computes d w) where
  conflict-told : (o x y : ℕ)
      → o < length d.outputs
      → x < vertex_count d.bound
      → y < vertex_count d.bound
      → conflict d d.bound o x y ≡ true
      → Told (lut_at w) (node_of w o).reads x y
  conflict-told o x y h a b f e =
      let q = conflict_differ d d.bound o x y f in
      q.different (one-column d w (parts_of d.inputs d.bound proper.parted) c.agrees o x y h a b e q.place q.below)

  -- an output reads tables enough for a code for each local class
  classes_coded : (o : ℕ) → o < length d.outputs → local_count d d.bound o ≤ 2 ^ read_count w o
  unfolding local_count
  classes_coded o h =
      classes_told (alike d d.bound o) (lut_at w) (node_of w o).reads (vertex_count d.bound)
      (λ x y a b u. conflict-told o x y h a b (unlike_conflict d d.bound o x y u))

  width_read : (o : ℕ) → o < length d.outputs → budget d d.bound o ≤ read_count w o
  unfolding budget width
  width_read o h = width_least (local_count d d.bound o) (read_count w o) (classes_coded o h)

module _ (d : Design) (w : Network) (proper : Proper d) (f : NetworkFor d w) (l : WithinLimits d w) (c : Computes d w) where
  pub reads-width : (o : ℕ) → o < length d.outputs → read_count w o ≡ budget d d.bound o
  reads-width o h = le_antisymm (l.reads-within o (subst (λ (n : ℕ). o < n) (sym f.node_each) h)) (width_read d w proper c o h)
