-- Sheet A with capitals: its first network, by the test, and what is refused. Assumes nothing.
use Rattle.std.specs.Prelude.{◌≡◌, refl, List, [], ◌∷◌}
use Rattle.std.proofs.Common.{lit≤}
use Rattle.sheet.specs.Examine.{refused, examine}
use Rattle.design.specs.Sheets.{sheet_capitals, design_capitals, after_design}
use Rattle.network.specs.Network.{Network}
use Rattle.demands.specs.Computing.{computing}
use Rattle.demands.specs.NeededCells.{AtLeast, one-needed}
use Rattle.demands.specs.FirstTest.{Ask, asking, Tested, Plain, testing}
use Rattle.demands.specs.Designs.{bits, node, network}
use Rattle.demands.specs.Worked.{Prints}
use Rattle.demands.specs.WorkedCapitals.{network_capitals, WorkedCapitals}
use Rattle.demands.specs.WorkedLaws.{refuses_sheet, Fewest, fewest_of, prints_tested}

capitals_cells : AtLeast 1 design_capitals
unfolding computing
capitals_cells = one-needed design_capitals 0 0 1 refl

abbrev capitals_network : Network
capitals_network = network (bits "01101001" ∷ []) (node (0 ∷ []) (bits "0110") ∷ node (0 ∷ []) (bits "0001") ∷ [])

capitals_fewest : Fewest sheet_capitals network_capitals design_capitals capitals_network
unfolding computing
capitals_fewest = fewest_of refl refl refl refl (lit≤ tt) capitals_cells

-- F and g have to tell vertices of other parity apart, by one table each
abbrev parities : Ask
parities = asking 1 ((0, 1) ∷ (0, 2) ∷ (0, 4) ∷ (0, 7) ∷ (1, 3) ∷ (1, 5) ∷ (1, 6) ∷ [])

abbrev capitals_asks : List Ask
capitals_asks = parities ∷ parities ∷ []

capitals_tested : Tested design_capitals 7 capitals_network capitals_asks
unfolding computing testing
capitals_tested =
    record {
      vertices = refl;
      counted = refl;
      asked = (record { reads = refl; tells = refl }, (record { reads = refl; tells = refl }, tt));
      tables = refl;
      reads = (refl, (refl, tt));
    }

capitals_plain : Plain design_capitals capitals_network
unfolding computing testing
capitals_plain = record { zero_first = (refl, tt); entries = (refl, (refl, tt)) }

capitals_printed : Prints sheet_capitals 1 network_capitals
unfolding computing
capitals_printed =
    prints_tested sheet_capitals network_capitals design_capitals capitals_network capitals_fewest refl 7 capitals_asks capitals_plain capitals_tested

twice_asked : examine (after_design "(in a A)\n") ≡ refused 4 2
unfolding computing
twice_asked = refl

operator-asked : examine (after_design "(in Xor)\n") ≡ refused 2 2
unfolding computing
operator-asked = refl

pub worked_capitals : WorkedCapitals
unfolding computing
worked_capitals =
    record {
      sheet_capitals_lem = capitals_printed;
      own_spelling = refl;
      other-spelling = refl;
      small_letters = refl;
      keyword_capital = refl;
      input_twice = refuses_sheet (after_design "(in a A)\n") 4 2 twice_asked;
      operator-word = refuses_sheet (after_design "(in Xor)\n") 2 2 operator-asked;
    }
