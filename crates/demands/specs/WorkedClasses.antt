-- Question 7 at its border, about the definitions: sheet I has 16 global classes and is asked 8; a sheet with 17, and sheet I with its
-- fourth output, which has 32, are refused by 7, at limit 0 too (clauses 9.7 and 16.9). Assumes nothing.
use Rattle.std.specs.Prelude.{◌≡◌, List, ◌++◌, ℕ}
use Prim.Native.String.{String}
use Rattle.text.specs.Bytes.{bytes}
use Rattle.sheet.specs.Examine.{valid, examine}
use Rattle.classes.specs.Classes.{global_count}
use Rattle.demands.specs.Designs.{design_i, design_i4, design17}
use Rattle.demands.specs.Worked.{Refuses}
use Rattle.demands.specs.WorkedCauses.{sheet_i}

-- by its limit and its outputs
abbrev sheet_five : String → String → List ℕ
sheet_five n os = bytes "(design 1)\n(in a b c d e x y)\n(bound a b c d e)\n(limit " ++ (bytes n ++ (bytes ")\n" ++ (bytes os ++ bytes "(end)\n")))

abbrev pub sheet_i4 : String → List ℕ
sheet_i4 n = sheet_five n "(out f (or (and a x) (and e y)))\n(out g (xor b x))\n(out h (xor c x))\n(out i (xor d x))\n"

abbrev pub sheet17 : String → List ℕ
sheet17 n =
    sheet_five n "(out f (and a (xor b x)))\n(out g (and a (xor c x)))\n(out h (and a (xor d x)))\n(out i (and a (xor e x)))\n"

pub record WorkedClasses : Type 0 where
  -- 16 pass
  pub said_i : examine (sheet_i "3") ≡ valid (design_i 3)
  pub classes_i : (n : ℕ) → global_count (design_i n) (design_i n).bound ≡ 16
  pub sheet_i_3 : Refuses (sheet_i "3") 8 0
  -- 17 do not
  pub said_17 : examine (sheet17 "6") ≡ valid (design17 6)
  pub classes_17 : (n : ℕ) → global_count (design17 n) (design17 n).bound ≡ 17
  pub sheet_17_6 : Refuses (sheet17 "6") 7 0
  pub sheet_17_0 : Refuses (sheet17 "0") 7 0
  -- nor do 32
  pub said_i4 : examine (sheet_i4 "4") ≡ valid (design_i4 4)
  pub classes_i4 : (n : ℕ) → global_count (design_i4 n) (design_i4 n).bound ≡ 32
  pub sheet_i4_4 : Refuses (sheet_i4 "4") 7 0
  pub sheet_i4_0 : Refuses (sheet_i4 "0") 7 0
