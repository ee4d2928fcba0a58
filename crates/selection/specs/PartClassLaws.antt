-- With some of its outputs a design has no more global classes: vertices that are alike in all outputs are alike in some of them, and a
-- coarser relation makes no more classes. Assumes nothing.
use Rattle.std.specs.Prelude.{◌≡◌, true, List, ℕ, ◌≤◌, ◌<◌, length}
use Rattle.std.proofs.Common.{◌∙◌, arith}
use Rattle.names.specs.Name.{Name}
use Rattle.sheet.specs.Examine.{Design}
use Rattle.classes.specs.Columns.{alike_in_all, vertex_count}
use Rattle.classes.specs.Classes.{global_count}
use Rattle.classes.specs.VertexLaws.{upto_alike, alike_upto_lem}
use Rattle.subsets.specs.Subset.{size, member_at}
use Rattle.subsets.specs.SubsetLaws.{member_below}
use Rattle.selection.specs.Selection.{part}
use Rattle.selection.specs.PartLaws.{part_count}
use Rattle.selection.specs.PartColumnLaws.{part-alike}
use Rattle.selection.specs.CoarserLaws.{coarser_count}

part_alike_in_all : (s : ℕ) (d : Design) (bs : List Name) (x y : ℕ)
    → alike_in_all d bs x y ≡ true
    → alike_in_all (part s d) bs x y ≡ true
part_alike_in_all s d bs x y e =
    let m = length d.outputs in
    alike_upto_lem (part s d) bs (length (part s d).outputs) x y
    (λ j l.
    let h : j < size m s = omega (arith, l, part_count s d) in
    part-alike s d j h bs x y ∙ upto_alike d bs m x y e (member_at m s j) (member_below m s j h))

pub part_global_most : (s : ℕ) (d : Design) (bs : List Name) → global_count (part s d) bs ≤ global_count d bs
unfolding global_count
part_global_most s d bs =
    coarser_count (alike_in_all d bs) (alike_in_all (part s d) bs) (vertex_count bs) (λ x y a b. part_alike_in_all s d bs x y)
