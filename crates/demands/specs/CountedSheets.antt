-- Sheets C, D, E and G: how many cells they need, and the first network with so many of C, D and E, by the test. Assumes nothing.
use Rattle.std.specs.Prelude.{refl, List, [], ◌∷◌, ℕ}
use Rattle.std.proofs.Common.{lit≤}
use Rattle.network.specs.Network.{Network}
use Rattle.demands.specs.Computing.{computing}
use Rattle.demands.specs.NeededCells.{AtLeast, two-needed, three_needed}
use Rattle.demands.specs.FirstTest.{Ask, asking, Tested, Plain, testing}
use Rattle.demands.specs.Designs.{design_c, design_d, design_e, design_g, bits, node, network}
use Rattle.demands.specs.Worked.{sheet_c, network_c, sheet_d, network_d, sheet_e, network_e, sheet_g, Refuses, Prints}
use Rattle.demands.specs.WorkedLaws.{refuses_8, Fewest, fewest_of, prints_tested}

-- ---- C: f tells vertices with different a apart, g those with different b; so they need two cells together
pub c_cells : (n : ℕ) → AtLeast 2 (design_c n)
unfolding computing
c_cells n = two-needed (design_c n) 1 0 0 0 1 2 refl refl refl

pub c_refused : Refuses (sheet_c "1") 8 0
unfolding computing
c_refused = refuses_8 (sheet_c "1") (design_c 1) refl (lit≤ tt) (c_cells 1)

abbrev c_network : Network
c_network = network (bits "0011" ∷ bits "0101" ∷ []) (node (0 ∷ []) (bits "0110") ∷ node (1 ∷ []) (bits "0110") ∷ [])

c_fewest : Fewest (sheet_c "2") network_c (design_c 2) c_network
unfolding computing
c_fewest = fewest_of refl refl refl refl (lit≤ tt) (c_cells 2)

-- f has to tell vertices with different a apart, g those with different b, by one table each
abbrev c_asks : List Ask
c_asks =
    asking 1 ((0, 2) ∷ (0, 3) ∷ (1, 2) ∷ (1, 3) ∷ [])
    ∷ asking 1 ((0, 1) ∷ (0, 3) ∷ (2, 1) ∷ (2, 3) ∷ [])
    ∷ []

c_tested : Tested (design_c 2) 3 c_network c_asks
unfolding computing testing
c_tested =
    record {
      vertices = refl;
      counted = refl;
      asked = (record { reads = refl; tells = refl }, (record { reads = refl; tells = refl }, tt));
      tables = refl;
      reads = (refl, (refl, tt));
    }

c_plain : Plain (design_c 2) c_network
unfolding computing testing
c_plain = record { zero_first = (refl, (refl, tt)); entries = (refl, (refl, tt)) }

pub c_printed : Prints (sheet_c "2") 2 network_c
unfolding computing
c_printed = prints_tested (sheet_c "2") network_c (design_c 2) c_network c_fewest refl 3 c_asks c_plain c_tested

-- ---- D: f, g and h read one cell each, and any two of them need two cells together, as f and g do
pub d-cells : (n : ℕ) → AtLeast 3 (design_d n)
unfolding computing
d-cells n =
    three_needed (design_d n) 0 1 2 0 1 2 (record { width_1 = refl; first = refl; second = refl })
    (record { width_1 = refl; first = refl; second = refl }) (record { width_1 = refl; first = refl; second = refl })

pub d-refused : Refuses (sheet_d "2") 8 0
unfolding computing
d-refused = refuses_8 (sheet_d "2") (design_d 2) refl (lit≤ tt) (d-cells 2)

abbrev d-network : Network
d-network =
    network (bits "0011" ∷ bits "0101" ∷ bits "0110" ∷ [])
    (node (0 ∷ []) (bits "0110") ∷ node (1 ∷ []) (bits "0110") ∷ node (2 ∷ []) (bits "0110") ∷ [])

d_fewest : Fewest (sheet_d "3") network_d (design_d 3) d-network
unfolding computing
d_fewest = fewest_of refl refl refl refl (lit≤ tt) (d-cells 3)

-- and h those with different (xor a b)
abbrev d_asks : List Ask
d_asks =
    asking 1 ((0, 2) ∷ (0, 3) ∷ (1, 2) ∷ (1, 3) ∷ [])
    ∷ asking 1 ((0, 1) ∷ (0, 3) ∷ (2, 1) ∷ (2, 3) ∷ [])
    ∷ asking 1 ((0, 1) ∷ (0, 2) ∷ (3, 1) ∷ (3, 2) ∷ [])
    ∷ []

d_tested : Tested (design_d 3) 3 d-network d_asks
unfolding computing testing
d_tested =
    record {
      vertices = refl;
      counted = refl;
      asked = (record { reads = refl; tells = refl }, (record { reads = refl; tells = refl }, (record { reads = refl; tells = refl }, tt)));
      tables = refl;
      reads = (refl, (refl, (refl, tt)));
    }

d-plain : Plain (design_d 3) d-network
unfolding computing testing
d-plain = record { zero_first = (refl, (refl, (refl, tt))); entries = (refl, (refl, (refl, tt))) }

pub d_printed : Prints (sheet_d "3") 3 network_d
unfolding computing
d_printed = prints_tested (sheet_d "3") network_d (design_d 3) d-network d_fewest refl 3 d_asks d-plain d_tested

-- ---- E: f alone tells three vertices apart pairwise
e_cells : AtLeast 2 design_e
unfolding computing
e_cells = two-needed design_e 0 0 0 0 1 2 refl refl refl

abbrev e_network : Network
e_network =
    network (bits "0011" ∷ bits "0110" ∷ [])
    (node (0 ∷ 1 ∷ []) (bits "0000010101110011") ∷ node (1 ∷ []) (bits "00111100") ∷ [])

e_fewest : Fewest sheet_e network_e design_e e_network
unfolding computing
e_fewest = fewest_of refl refl refl refl (lit≤ tt) e_cells

-- f has to tell all vertices apart, by two tables, g those with different (xor a b), by one
abbrev e_asks : List Ask
e_asks =
    asking 2 ((0, 1) ∷ (0, 2) ∷ (0, 3) ∷ (1, 2) ∷ (1, 3) ∷ (2, 3) ∷ [])
    ∷ asking 1 ((0, 1) ∷ (0, 2) ∷ (3, 1) ∷ (3, 2) ∷ [])
    ∷ []

e_tested : Tested design_e 3 e_network e_asks
unfolding computing testing
e_tested =
    record {
      vertices = refl;
      counted = refl;
      asked = (record { reads = refl; tells = refl }, (record { reads = refl; tells = refl }, tt));
      tables = refl;
      reads = (refl, (refl, tt));
    }

e_plain : Plain design_e e_network
unfolding computing testing
e_plain = record { zero_first = (refl, (refl, tt)); entries = (refl, (refl, tt)) }

pub e_printed : Prints sheet_e 2 network_e
unfolding computing
e_printed = prints_tested sheet_e network_e design_e e_network e_fewest refl 3 e_asks e_plain e_tested

-- ---- G: f tells vertices 0, 1 and 3 apart pairwise
pub g_cells : (n : ℕ) → AtLeast 2 (design_g n)
unfolding computing
g_cells n = two-needed (design_g n) 0 0 0 0 1 3 refl refl refl

pub g_refused : Refuses (sheet_g "1") 8 0
unfolding computing
g_refused = refuses_8 (sheet_g "1") (design_g 1) refl (lit≤ tt) (g_cells 1)
