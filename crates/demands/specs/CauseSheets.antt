-- The causes of sheets C, D, G and I are all their outputs: how many cells these need, and a network for each other set.
-- Assumes nothing.
use Rattle.std.specs.Prelude.{◌≡◌, refl, Bool, List, [], ◌∷◌, ℕ, ◌≤◌}
use Rattle.std.proofs.Common.{arith, lit≤}
use Rattle.limits.specs.Limits.{max_classes}
use Rattle.sheet.specs.Examine.{valid, examine}
use Rattle.classes.specs.Classes.{global_count}
use Rattle.network.specs.Network.{Node}
use Rattle.subsets.specs.Subset.{selected}
use Rattle.selection.specs.Selection.{part}
use Rattle.mapper.specs.Cause.{CauseIs, outputs_of}
use Rattle.demands.specs.Computing.{computing}
use Rattle.demands.specs.Designs.{design_c, design_d, design_g, design_i, bits, node, network}
use Rattle.demands.specs.NeededCells.{AtLeast}
use Rattle.demands.specs.ClassCells.{classes_needed}
use Rattle.demands.specs.ClassSheets.{table_a5, table_b5, table_c5, table_e5, i_classes}
use Rattle.demands.specs.Worked.{sheet_c, sheet_d, sheet_g, Refuses}
use Rattle.demands.specs.WorkedLaws.{refuses_8}
use Rattle.demands.specs.CountedSheets.{c_cells, d-cells, g_cells}
use Rattle.demands.specs.WorkedCauseLaws.{SameDrawn, same_drawn, all_outputs}
use Rattle.demands.specs.WorkedCauses.{sheet_i, WorkedCauses}

-- ---- C and D: a, b and (xor a b) as shared tables, and the exclusive or of table i and c
abbrev table_a : List Bool
table_a = bits "0011"

abbrev table_b : List Bool
table_b = bits "0101"

abbrev table_ab : List Bool
table_ab = bits "0110"

abbrev with_c : ℕ → Node
with_c i = node (i ∷ []) (bits "0110")

c_f : SameDrawn (part 1 (design_c 1))
unfolding computing part selected
c_f = same_drawn (network (table_a ∷ []) (with_c 0 ∷ [])) refl refl refl

c_g : SameDrawn (part 2 (design_c 1))
unfolding computing part selected
c_g = same_drawn (network (table_b ∷ []) (with_c 0 ∷ [])) refl refl refl

c_cause : CauseIs (sheet_c "1") (outputs_of 3)
unfolding computing
c_cause = all_outputs (sheet_c "1") (design_c 1) refl (lit≤ tt) (c_cells 1) (c_f, (c_g, tt))

d_f : SameDrawn (part 1 (design_d 2))
unfolding computing part selected
d_f = same_drawn (network (table_a ∷ []) (with_c 0 ∷ [])) refl refl refl

d_g : SameDrawn (part 2 (design_d 2))
unfolding computing part selected
d_g = same_drawn (network (table_b ∷ []) (with_c 0 ∷ [])) refl refl refl

d_fg : SameDrawn (part 3 (design_d 2))
unfolding computing part selected
d_fg = same_drawn (network (table_a ∷ table_b ∷ []) (with_c 0 ∷ with_c 1 ∷ [])) refl refl refl

d_h : SameDrawn (part 4 (design_d 2))
unfolding computing part selected
d_h = same_drawn (network (table_ab ∷ []) (with_c 0 ∷ [])) refl refl refl

d_fh : SameDrawn (part 5 (design_d 2))
unfolding computing part selected
d_fh = same_drawn (network (table_a ∷ table_ab ∷ []) (with_c 0 ∷ with_c 1 ∷ [])) refl refl refl

d_gh : SameDrawn (part 6 (design_d 2))
unfolding computing part selected
d_gh = same_drawn (network (table_b ∷ table_ab ∷ []) (with_c 0 ∷ with_c 1 ∷ [])) refl refl refl

d_cause : CauseIs (sheet_d "2") (outputs_of 7)
unfolding computing
d_cause = all_outputs (sheet_d "2") (design_d 2) refl (lit≤ tt) (d-cells 2) (d_f, (d_g, (d_fg, (d_h, (d_fh, (d_gh, tt))))))

-- ---- G: no other set but the empty one
g_cause : CauseIs (sheet_g "1") (outputs_of 1)
unfolding computing
g_cause = all_outputs (sheet_g "1") (design_g 1) refl (lit≤ tt) (g_cells 1) tt

-- ---- I: a, b, c and e as shared tables; f of a and e, and the exclusive or of table i and x
abbrev of_ae : Node
of_ae = node (0 ∷ 1 ∷ []) (bits "0000010100110111")

abbrev with_x : ℕ → Node
with_x i = node (i ∷ []) (bits "00111100")

i_f : SameDrawn (part 1 (design_i 3))
unfolding computing part selected
i_f = same_drawn (network (table_a5 ∷ table_e5 ∷ []) (of_ae ∷ [])) refl refl refl

i_g : SameDrawn (part 2 (design_i 3))
unfolding computing part selected
i_g = same_drawn (network (table_b5 ∷ []) (with_x 0 ∷ [])) refl refl refl

i_fg : SameDrawn (part 3 (design_i 3))
unfolding computing part selected
i_fg = same_drawn (network (table_a5 ∷ table_e5 ∷ table_b5 ∷ []) (of_ae ∷ with_x 2 ∷ [])) refl refl refl

i_h : SameDrawn (part 4 (design_i 3))
unfolding computing part selected
i_h = same_drawn (network (table_c5 ∷ []) (with_x 0 ∷ [])) refl refl refl

i_fh : SameDrawn (part 5 (design_i 3))
unfolding computing part selected
i_fh = same_drawn (network (table_a5 ∷ table_e5 ∷ table_c5 ∷ []) (of_ae ∷ with_x 2 ∷ [])) refl refl refl

i_gh : SameDrawn (part 6 (design_i 3))
unfolding computing part selected
i_gh = same_drawn (network (table_b5 ∷ table_c5 ∷ []) (with_x 0 ∷ with_x 1 ∷ [])) refl refl refl

pub i_said : examine (sheet_i "3") ≡ valid (design_i 3)
unfolding computing
i_said = refl

i_few : global_count (design_i 3) (design_i 3).bound ≤ max_classes
i_few = omega (arith, i_classes 3)

-- three cells have only eight codes for sixteen classes
i_cells : AtLeast 4 (design_i 3)
i_cells = classes_needed (design_i 3) 3 (let e = i_classes 3 in omega (arith, e))

pub i_refused : Refuses (sheet_i "3") 8 0
i_refused = refuses_8 (sheet_i "3") (design_i 3) i_said i_few i_cells

i_cause : CauseIs (sheet_i "3") (outputs_of 7)
i_cause = all_outputs (sheet_i "3") (design_i 3) i_said i_few i_cells (i_f, (i_g, (i_fg, (i_h, (i_fh, (i_gh, tt))))))

pub worked_causes : WorkedCauses
worked_causes =
    record {
      cause_c = c_cause;
      cause_d = d_cause;
      cause_g = g_cause;
      sheet_i_3 = i_refused;
      cause_i = i_cause;
    }
