-- Sheet I, I with its fourth output, and a sheet with one class more than a sheet may have: how many global classes they have, by their
-- columns. Assumes nothing.
use Rattle.std.specs.Prelude.{◌≡◌, refl, Bool, List, [], ◌∷◌, map, ℕ}
use Rattle.bits.specs.Logic.{pick}
use Rattle.classes.specs.Classes.{global_count}
use Rattle.demands.specs.Computing.{computing}
use Rattle.demands.specs.Designs.{design_i, design_i4, design17, bits}
use Rattle.demands.specs.WrittenColumns.{columns_from, alike_written, written_count}

-- the bound inputs as tables over the 32 vertices
abbrev pub table_a5 : List Bool
table_a5 = bits "00000000000000001111111111111111"

abbrev pub table_b5 : List Bool
table_b5 = bits "00000000111111110000000011111111"

abbrev pub table_c5 : List Bool
table_c5 = bits "00001111000011110000111100001111"

abbrev table_d5 : List Bool
table_d5 = bits "00110011001100110011001100110011"

abbrev pub table_e5 : List Bool
table_e5 = bits "01010101010101010101010101010101"

-- the columns of the first output follow from a and e, those of any other from one bound input
abbrev by_both : List Bool → List Bool → List (List Bool)
by_both [] us = []
by_both (a ∷ ts) [] = []
by_both (a ∷ ts) (e ∷ us) = pick a (pick e (bits "0111") (bits "0011")) (pick e (bits "0101") (bits "0000")) ∷ by_both ts us

abbrev by_one : List Bool → List (List Bool)
by_one bs = map (λ (b : Bool). pick b (bits "1100") (bits "0011")) bs

-- where a is 1, one bound input more
abbrev by_one_where : List Bool → List Bool → List (List Bool)
by_one_where [] us = []
by_one_where (a ∷ ts) [] = []
by_one_where (a ∷ ts) (b ∷ us) = pick a (pick b (bits "1100") (bits "0011")) (bits "0000") ∷ by_one_where ts us

abbrev columns_i : List (List (List Bool))
columns_i = by_both table_a5 table_e5 ∷ by_one table_b5 ∷ by_one table_c5 ∷ []

abbrev columns_i4 : List (List (List Bool))
columns_i4 = by_both table_a5 table_e5 ∷ by_one table_b5 ∷ by_one table_c5 ∷ by_one table_d5 ∷ []

abbrev columns17 : List (List (List Bool))
columns17 = by_one_where table_a5 table_b5 ∷ by_one_where table_a5 table_c5 ∷ by_one_where table_a5 table_d5 ∷ by_one_where table_a5 table_e5 ∷ []

-- f does not see b, c and d, and g and h see one of b and c each
pub i_classes : (n : ℕ) → global_count (design_i n) (design_i n).bound ≡ 16
unfolding computing columns_from alike_written
i_classes n = written_count (design_i n) (design_i n).bound columns_i (refl, (refl, (refl, tt)))

pub i4_classes : (n : ℕ) → global_count (design_i4 n) (design_i4 n).bound ≡ 32
unfolding computing columns_from alike_written
i4_classes n = written_count (design_i4 n) (design_i4 n).bound columns_i4 (refl, (refl, (refl, (refl, tt))))

-- one class where a is 0, and one for each of the 16 vertices where it is 1
pub classes_17 : (n : ℕ) → global_count (design17 n) (design17 n).bound ≡ 17
unfolding computing columns_from alike_written
classes_17 n = written_count (design17 n) (design17 n).bound columns17 (refl, (refl, (refl, (refl, tt))))
