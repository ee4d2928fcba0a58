-- The causes of the refusals by 8 among the sheets to try (clauses 16.3, 16.4, 16.7 and 16.9): C at limit 1, D at limit 2, G at
-- limit 1 and I at limit 3, about the definition. Sets are numbers, output o being in the set whose digit o is 1. Assumes nothing.
use Rattle.std.specs.Prelude.{List, ◌++◌, ℕ}
use Prim.Native.String.{String}
use Rattle.text.specs.Bytes.{bytes}
use Rattle.mapper.specs.Cause.{CauseIs, outputs_of}
use Rattle.demands.specs.Worked.{sheet_c, sheet_d, sheet_g, Refuses}

-- I by its limit
abbrev pub sheet_i : String → List ℕ
sheet_i n =
    bytes "(design 1)\n(in a b c d e x y)\n(bound a b c d e)\n(limit "
    ++ (bytes n ++ bytes ")\n(out f (or (and a x) (and e y)))\n(out g (xor b x))\n(out h (xor c x))\n(end)\n")

pub record WorkedCauses : Type 0 where
  -- C. f and g together; each of them maps at limit 1
  pub cause_c : CauseIs (sheet_c "1") (outputs_of 3)
  -- D. f, g and h together; any two of them map at limit 2
  pub cause_d : CauseIs (sheet_d "2") (outputs_of 7)
  -- G. its one output
  pub cause_g : CauseIs (sheet_g "1") (outputs_of 1)
  -- I: f, g and h together; any two of them map at limit 3
  pub sheet_i_3 : Refuses (sheet_i "3") 8 0
  pub cause_i : CauseIs (sheet_i "3") (outputs_of 7)
