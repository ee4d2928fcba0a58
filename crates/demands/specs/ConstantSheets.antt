-- Sheet G at limit 2: vertices 1 and 2 are of one global class, and a network whose tables differ there is permitted; Map's is
-- another one, which comes before. Assumes nothing.
use Rattle.std.specs.Prelude.{◌≡◌, refl, true, List, [], ◌∷◌, ◌++◌, ℕ}
use Rattle.std.proofs.Common.{sym, lit<, lit≤}
use Rattle.bits.specs.LogicLaws.{true_false}
use Rattle.text.specs.Bytes.{bytes}
use Rattle.order.specs.Order.{before, list_order}
use Rattle.sheet.specs.ExaminationLaws.{valid_well_formed}
use Rattle.sheet.specs.Examine.{valid, examine}
use Rattle.classes.specs.Classes.{global_class}
use Rattle.network.specs.Network.{Network}
use Rattle.network.specs.Examine as networks
use Rattle.network.specs.Examine.{read_network}
use Rattle.network.specs.Printer.{print_network}
use Rattle.network.specs.Value.{lut_at}
use Rattle.demands.specs.Computing.{computing}
use Rattle.mapper.specs.Map.{Permitted, First}
use Rattle.demands.specs.NeededCells.{two-needed}
use Rattle.demands.specs.FirstTest.{Plain, testing}
use Rattle.demands.specs.ConstantLaws.{first_constant}
use Rattle.demands.specs.Designs.{design_g, bits, node, network}
use Rattle.demands.specs.Worked.{sheet_g, Prints}
use Rattle.demands.specs.WorkedLaws.{Fewest, fewest_of, plain_permitted}
use Rattle.demands.specs.WorkedUnproduced.{network_g}
use Rattle.demands.specs.UnproducedSheets.{worked_unproduced}

-- ======== definitions
-- a network whose tables are a and b, so that all four vertices have codes of their own
abbrev pub varied_g : List ℕ
varied_g =
    bytes "(network 1)\n(lut _0 (a b) 0011)\n(lut _1 (a b) 0101)\n"
    ++ bytes "(node f (_0 _1 c d) 0000010101010011)\n(count 2)\n(end)\n"

abbrev pub varied : Network
varied = network (bits "0011" ∷ bits "0101" ∷ []) (node (0 ∷ 1 ∷ []) (bits "0000010101010011") ∷ [])

pub record WorkedConstant : Type 0 where
  pub said : examine (sheet_g "2") ≡ valid (design_g 2)
  pub one_class : global_class (design_g 2) (design_g 2).bound 1 ≡ global_class (design_g 2) (design_g 2).bound 2
  -- this one is permitted, and its first table has two values on that class
  pub varied-said : read_network (design_g 2) varied_g ≡ networks.network varied
  pub varied_printed : varied_g ≡ print_network (design_g 2) varied
  pub varied_permitted : Permitted (design_g 2) varied
  pub varies : lut_at varied 0 1 ≡ lut_at varied 0 2 → ⊥
  pub not_first : First (design_g 2) varied → ⊥
  -- Map's is another one
  pub prints : Prints (sheet_g "2") 2 (network_g "0000")
  pub comes_before : before (network_g "0000") varied_g ≡ true

-- ======== laws
varied_fewest : Fewest (sheet_g "2") varied_g (design_g 2) varied
unfolding computing
varied_fewest = fewest_of refl refl refl refl (lit≤ tt) (two-needed (design_g 2) 0 0 0 0 1 3 refl refl refl)

varied-plain : Plain (design_g 2) varied
unfolding computing testing
varied-plain = record { zero_first = (refl, (refl, tt)); entries = (refl, tt) }

g_one_class : global_class (design_g 2) (design_g 2).bound 1 ≡ global_class (design_g 2) (design_g 2).bound 2
unfolding computing global_class
g_one_class = refl

varied_not_first : First (design_g 2) varied → ⊥
varied_not_first f =
    true_false (first_constant (design_g 2) varied 2 1 0 (valid_well_formed (sheet_g "2") (design_g 2) varied_fewest.is_valid) f
    (lit< tt) (lit< tt) (sym g_one_class) (lit< tt))

pub worked_constant : WorkedConstant
unfolding computing before list_order
worked_constant =
    record {
      said = refl;
      one_class = g_one_class;
      varied-said = refl;
      varied_printed = refl;
      varied_permitted = plain_permitted (sheet_g "2") varied_g (design_g 2) varied varied_fewest varied-plain;
      varies = λ e. true_false (sym e);
      not_first = varied_not_first;
      prints = worked_unproduced.prints_g;
      comes_before = refl;
    }
