-- Vertices go by the `bound` line and free rows by the `in` line (clauses 6.2 and 6.3): a sheet whose `bound` line is not in
-- the order of its `in` line, with its vertices, columns, rows of tables and answers of Check, each
-- computed by the definitions. With vertices in the order of the `in` line every one of these would be another. Assumes nothing.
use Rattle.std.specs.Prelude.{◌≡◌, refl, true, false, List, [], ◌∷◌, ◌++◌, ℕ}
use Prim.Native.String.{String}
use Rattle.text.specs.Bytes.{bytes}
use Rattle.cursor.specs.Opening.{and_gate, or_gate, xor_gate}
use Rattle.formula.specs.Tree.{Formula, input, negation, gate, none}
use Rattle.sheet.specs.Examine.{Design, valid, examine}
use Rattle.classes.specs.Columns.{free, join_row, vertex_of, free_row_of, column}
use Rattle.network.specs.Computing.{computing}
use Rattle.network.specs.Check as c
use Rattle.network.specs.Check.{Checked, check, differs, refused_by}

-- d is the higher bit of a vertex, a the lower; b is the higher bit of a free row, c the lower
abbrev sheet : List ℕ
sheet =
    bytes "(design 1)\n(in a b c d)\n(bound d a)\n(limit 2)\n"
    ++ bytes "(out f (or (and a (not d)) (and b (not c))))\n(out g (xor c d))\n(end)\n"

abbrev named : String → Formula
named n = input (bytes n)

abbrev design : Design
design =
    record {
      inputs = bytes "a" ∷ bytes "b" ∷ bytes "c" ∷ bytes "d" ∷ [];
      bound = bytes "d" ∷ bytes "a" ∷ [];
      limit = 2;
      outputs =
          record {
            name = bytes "f";
            formula =
                gate or_gate (gate and_gate (named "a") (negation (named "d")) none)
                (gate and_gate (named "b") (negation (named "c")) none) none;
          }
          ∷ record { name = bytes "g"; formula = gate xor_gate (named "c") (named "d") none }
          ∷ [];
    }

-- Check on a network with these tables and nodes: f reads whether a and not d, g reads d
abbrev checked : String → String → String → String → Checked
checked s t f g =
    check sheet
    (bytes "(network 1)\n(lut _0 (d a) "
    ++ (bytes s
    ++ (bytes ")\n(lut _1 (d a) "
    ++ (bytes t
    ++ (bytes ")\n(node f (_0 b c) " ++ (bytes f ++ (bytes ")\n(node g (_1 b c) " ++ (bytes g ++ bytes ")\n(count 2)\n(end)\n"))))))))

pub record WorkedBound : Type 0 where
  pub said : examine sheet ≡ valid design
  pub free_inputs : free design.inputs design.bound ≡ bytes "b" ∷ bytes "c" ∷ []
  -- row 8 has a alone, row 1 has d alone, row 4 has b alone
  pub vertex_of_a : vertex_of design.inputs design.bound 8 ≡ 1
  pub vertex_of_d : vertex_of design.inputs design.bound 1 ≡ 2
  pub vertex_of_b : vertex_of design.inputs design.bound 4 ≡ 0
  pub free_row_of_b : free_row_of design.inputs design.bound 4 ≡ 2
  -- and back
  pub row_of_a : join_row design.inputs design.bound 1 0 ≡ 8
  pub row_of_d_and_c : join_row design.inputs design.bound 2 1 ≡ 3
  -- f at the vertex of a, and at that of d
  pub column_of_a : column design design.bound 0 1 ≡ true ∷ true ∷ true ∷ true ∷ []
  pub column_of_d : column design design.bound 0 2 ≡ false ∷ false ∷ true ∷ false ∷ []
  -- g at the same vertices
  pub column_of_a_g : column design design.bound 1 1 ≡ false ∷ true ∷ false ∷ true ∷ []
  pub column_of_d_g : column design design.bound 1 2 ≡ true ∷ false ∷ true ∷ false ∷ []
  -- a network whose tables have their digits in the order of the vertices
  pub right : checked "0100" "0011" "00101111" "01011010" ≡ c.same
  -- tables with their digits in the order of the `in` line: row 1 has d alone
  pub first_table_in_order : checked "0010" "0011" "00101111" "01011010" ≡ differs 0 1
  pub second_table_in_order : checked "0100" "0101" "00101111" "01011010" ≡ differs 1 1
  -- a wrong digit where f reads 1 and b, c are 0: the row of a alone; where g reads 1 and b alone is 1: row 5, of b and d
  pub wrong_digit_f : checked "0100" "0011" "00100111" "01011010" ≡ differs 0 8
  pub wrong_digit_g : checked "0100" "0011" "00101111" "01011000" ≡ differs 1 5
  -- a lut line lists the bound inputs, and a node line the free ones, in these orders and no other
  pub lut_list : check sheet (bytes "(network 1)\n(lut _0 (a d) 0100)\n") ≡ refused_by 10 2
  pub node_list : check sheet (bytes "(network 1)\n(lut _0 (d a) 0100)\n(node f (_0 c b) 00101111)\n") ≡ refused_by 10 3

pub worked_bound : WorkedBound
unfolding computing
worked_bound =
    record {
      said = refl;
      free_inputs = refl;
      vertex_of_a = refl;
      vertex_of_d = refl;
      vertex_of_b = refl;
      free_row_of_b = refl;
      row_of_a = refl;
      row_of_d_and_c = refl;
      column_of_a = refl;
      column_of_d = refl;
      column_of_a_g = refl;
      column_of_d_g = refl;
      right = refl;
      first_table_in_order = refl;
      second_table_in_order = refl;
      wrong_digit_f = refl;
      wrong_digit_g = refl;
      lut_list = refl;
      node_list = refl;
    }
