-- Sheet J (clause 16.10), and network sheets that questions 10 and 11 refuse beside sheet A, each computed by the
-- definitions. Assumes nothing.
use Rattle.std.specs.Prelude.{◌≡◌, refl, List, [], ◌∷◌, ◌++◌, ℕ, zero, suc}
use Rattle.text.specs.Bytes.{bytes, newline}
use Rattle.network.specs.Computing.{computing}
use Rattle.network.specs.Check as c
use Rattle.network.specs.Check.{Checked, check, differs, refused_by}

-- sheet A
abbrev sheet : List ℕ
sheet =
    bytes "(design 1)\n(in a b c d)\n(bound a b c)\n(limit 2)\n"
    ++ bytes "(out f (xor a b c d))\n(out g (and (xor a b c) d))\n(end)\n"

-- Check on sheet A and a network sheet
abbrev checked : List ℕ → Checked
checked t = check sheet t

-- the lines of its network, and more of them
abbrev start : List ℕ
start = bytes "(network 1)\n(lut _0 (a b c) 01101001)\n"

abbrev second : List ℕ
second = bytes "(lut _1 (a b c) 00000000)\n"

-- lut lines up to the sixth, and the seventh
abbrev six : List ℕ
six =
    start ++ (second ++ (bytes "(lut _2 (a b c) 00000000)\n(lut _3 (a b c) 00000000)\n"
    ++ bytes "(lut _4 (a b c) 00000000)\n(lut _5 (a b c) 00000000)\n"))

abbrev seventh : List ℕ
seventh = bytes "(lut _6 (a b c) 00000000)\n"

abbrev nodes : List ℕ
nodes = bytes "(node f (_0 d) 0110)\n(node g (_0 d) 0001)\n"

-- so many empty lines
abbrev empty : ℕ → List ℕ
empty zero = []
empty (suc k) = newline ∷ empty k

pub record Worked : Type 0 where
  -- sheet A's own network, and sheet J
  pub own_network : checked (start ++ (nodes ++ bytes "(count 1)\n(end)\n")) ≡ c.same
  pub g_differs : checked (start ++ bytes "(node f (_0 d) 0110)\n(node g (_0 d) 0011)\n(count 1)\n(end)\n") ≡ differs 1 2
  pub complemented : checked
      (bytes "(network 1)\n(lut _0 (a b c) 10010110)\n" ++ bytes "(node f (_0 d) 1001)\n(node g (_0 d) 0100)\n(count 1)\n(end)\n")
      ≡ c.same
  -- what is misspelled
  pub no_text : checked [] ≡ refused_by 10 0
  pub longest_text : checked (empty 8192) ≡ refused_by 10 1
  pub too_long : checked (empty 8193) ≡ refused_by 10 0
  pub seventh_lut : checked (six ++ (seventh ++ (nodes ++ bytes "(count 7)\n(end)\n"))) ≡ refused_by 10 8
  pub wrong_count : checked (start ++ (nodes ++ bytes "(count 2)\n(end)\n")) ≡ refused_by 10 5
  pub lut_out_of_order : checked (bytes "(network 1)\n" ++ (second ++ (nodes ++ bytes "(count 1)\n(end)\n"))) ≡ refused_by 10 2
  pub lut_again : checked (start ++ (bytes "(lut _0 (a b c) 00000000)\n" ++ (nodes ++ bytes "(count 2)\n(end)\n"))) ≡ refused_by 10 3
  pub reads_not_rising : checked (start ++ (second ++ bytes "(node f (_1 _0 d) 01100110)\n")) ≡ refused_by 10 4
  pub node_missing : checked (start ++ bytes "(node f (_0 d) 0110)\n(count 1)\n(end)\n") ≡ refused_by 10 4
  pub end_missing : checked (start ++ (nodes ++ bytes "(count 1)\n")) ≡ refused_by 10 6
  pub last_line_not_ended : checked (start ++ (nodes ++ bytes "(count 1)\n(end)")) ≡ refused_by 10 6
  pub text_after_end : checked (start ++ (nodes ++ bytes "(count 1)\n(end)\n(end)\n")) ≡ refused_by 10 7
  -- what offends
  pub node_over_its_width : checked
      (start ++ (second ++ bytes "(node f (_0 d) 0110)\n(node g (_0 _1 d) 00000001)\n(count 2)\n(end)\n")) ≡ refused_by 11 5
  pub lut_above_the_limit : checked
      (start ++ (second ++ (bytes "(lut _2 (a b c) 00000000)\n" ++ (nodes ++ bytes "(count 3)\n(end)\n")))) ≡ refused_by 11 4
  pub sixth_lut : checked (six ++ (nodes ++ bytes "(count 6)\n(end)\n")) ≡ refused_by 11 4

pub worked : Worked
unfolding computing
worked =
    record {
      own_network = refl;
      g_differs = refl;
      complemented = refl;
      no_text = refl;
      longest_text = refl;
      too_long = refl;
      seventh_lut = refl;
      wrong_count = refl;
      lut_out_of_order = refl;
      lut_again = refl;
      reads_not_rising = refl;
      node_missing = refl;
      end_missing = refl;
      last_line_not_ended = refl;
      text_after_end = refl;
      node_over_its_width = refl;
      lut_above_the_limit = refl;
      sixth_lut = refl;
    }
