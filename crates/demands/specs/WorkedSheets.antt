-- What section 16 says of its sheets marked P holds of the definitions. Assumes nothing.
use Rattle.std.specs.Prelude.{◌≡◌, refl, []}
use Rattle.std.proofs.Common.{sym, ◌∙◌, subst, arith}
use Rattle.sheet.specs.AskedLaws.{valid_is}
use Rattle.sheet.specs.Examine.{Design, valid, examine, refused}
use Rattle.classes.specs.Classes.{local_count, global_count}
use Rattle.classes.specs.Width.{width}
use Rattle.demands.specs.Computing.{computing}
use Rattle.demands.specs.Designs.{design_d, design_g}
use Rattle.demands.specs.Worked.{Worked, sheet_d, sheet_g, sheet_k}
use Rattle.demands.specs.WorkedLaws.{refuses_sheet}
use Rattle.demands.specs.CountedSheets.{c_refused, c_printed, d-refused, d_printed, e_printed, g_refused}
use Rattle.demands.specs.ForcedSheets.{a_printed, f_printed, h_printed}

d-said : examine (sheet_d "3") ≡ valid (design_d 3)
unfolding computing
d-said = refl

g_said : examine (sheet_g "1") ≡ valid (design_g 1)
unfolding computing
g_said = refl

k_empty : examine [] ≡ refused 1 0
unfolding computing
k_empty = refl

k_limit : examine sheet_k ≡ refused 3 4
unfolding computing
k_limit = refl

d_classes : global_count (design_d 3) (design_d 3).bound ≡ 4
unfolding computing
d_classes = refl

g_classes : local_count (design_g 1) (design_g 1).bound 0 ≡ 3
unfolding computing
g_classes = refl

g_width : width (design_g 1) (design_g 1).bound 0 ≡ 2
unfolding computing
g_width = refl

pub worked : Worked
unfolding computing
worked =
    record {
      sheet_a_lem = a_printed;
      bytes_a = refl;
      buffer_95 = λ b a b' e o. a_printed.maps.short b a b' (omega (arith, e)) o;
      untouched_95 = λ b a b' e o. a_printed.maps.untouched b a b' (omega (arith, e)) o;
      buffer_96 = λ b a b' e o. a_printed.maps.answers b a b' (omega (arith, e)) o;
      sheet_c_1 = c_refused;
      sheet_c_2 = c_printed;
      bytes_c = refl;
      sheet_d_2 = d-refused;
      sheet_d_3 = d_printed;
      bytes-d = refl;
      classes_d = λ d e. subst (λ (x : Design). global_count x x.bound ≡ 4) (valid_is (sym d-said ∙ e)) d_classes;
      sheet_e_lem = e_printed;
      bytes_e = refl;
      sheet_f_lem = f_printed;
      classes_g = λ d e. subst (λ (x : Design). local_count x x.bound 0 ≡ 3) (valid_is (sym g_said ∙ e)) g_classes;
      width_g = λ d e. subst (λ (x : Design). width x x.bound 0 ≡ 2) (valid_is (sym g_said ∙ e)) g_width;
      sheet_g_1 = g_refused;
      sheet_h_lem = h_printed;
      bytes_h = refl;
      sheet_j = refl;
      sheet_j_complement = refl;
      empty-table = λ o b. refl;
      empty-map = refuses_sheet [] 1 0 k_empty;
      empty-check = λ t. refl;
      limit_7_table = λ o b. refl;
      limit_7_map = refuses_sheet sheet_k 3 4 k_limit;
      limit_7_check = λ t. refl;
    }
