-- Sheet A with capitals: what Map writes, what Check answers to its network in other spellings, and sheets that are refused for
-- the case of a letter alone or in spite of it. To be held beside clauses 4.9 and 8.9. Assumes nothing.
use Rattle.std.specs.Prelude.{◌≡◌, List, ◌++◌, ℕ}
use Rattle.text.specs.Bytes.{bytes}
use Rattle.design.specs.Sheets.{sheet_capitals, after_design}
use Rattle.network.specs.Check as checks
use Rattle.network.specs.Check.{check}
use Rattle.demands.specs.Worked.{network_a, Refuses, Prints}

-- inputs are spelled as in the `in` line, the bound ones too, and outputs as in their `out` lines
abbrev pub network_capitals : List ℕ
network_capitals =
    bytes "(network 1)\n(lut _0 (A B C) 01101001)\n"
    ++ bytes "(node F (_0 d) 0110)\n(node g (_0 d) 0001)\n(count 1)\n(end)\n"

-- each name in another case, and one line with a keyword so
abbrev pub network_other_case : List ℕ
network_other_case =
    bytes "(network 1)\n(lut _0 (a b c) 01101001)\n"
    ++ bytes "(node f (_0 D) 0110)\n(node G (_0 D) 0001)\n(count 1)\n(end)\n"

abbrev pub network_keyword : List ℕ
network_keyword =
    bytes "(network 1)\n(lut _0 (A B C) 01101001)\n"
    ++ bytes "(Node F (_0 d) 0110)\n(node g (_0 d) 0001)\n(count 1)\n(end)\n"

pub record WorkedCapitals : Type 0 where
  pub sheet_capitals_lem : Prints sheet_capitals 1 network_capitals
  pub own_spelling : check sheet_capitals network_capitals ≡ checks.same
  pub other-spelling : check sheet_capitals network_other_case ≡ checks.same
  pub small_letters : check sheet_capitals network_a ≡ checks.same
  pub keyword_capital : check sheet_capitals network_keyword ≡ checks.refused_by 10 3
  -- one input twice, and an operator word as a name
  pub input_twice : Refuses (after_design "(in a A)\n") 4 2
  pub operator-word : Refuses (after_design "(in Xor)\n") 2 2
