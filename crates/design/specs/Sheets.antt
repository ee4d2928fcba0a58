-- Sheets to try: those of the specification (section 16), and texts that put one thing to the test. Assumes nothing.
use Rattle.std.specs.Prelude.{List, [], ◌∷◌, ◌++◌, ℕ, zero, suc}
use Prim.Native.String.{String}
use Rattle.text.specs.Bytes.{bytes}
use Rattle.cursor.specs.Opening.{and_gate, xor_gate}
use Rattle.formula.specs.Tree.{Formula, input, negation, gate, none, more}
use Rattle.sheet.specs.Examine.{Design}

-- sheet A (clause 16.1), and what it says
abbrev pub sheet_a : List ℕ
sheet_a = bytes "(design 1)\n(in a b c d)\n(bound a b c)\n(limit 2)\n(out f (xor a b c d))\n(out g (and (xor a b c) d))\n(end)\n"

abbrev named : String → Formula
named n = input (bytes n)

-- the formulas of f and g, by the spelling of each name
abbrev formula_f : String → String → String → String → Formula
formula_f a b c d = gate xor_gate (named a) (named b) (more (named c) (more (named d) none))

abbrev formula_g : String → String → String → String → Formula
formula_g a b c d = gate and_gate (gate xor_gate (named a) (named b) (more (named c) none)) (named d) none

abbrev pub design_a : Design
design_a =
    record {
      inputs = bytes "a" ∷ bytes "b" ∷ bytes "c" ∷ bytes "d" ∷ [];
      bound = bytes "a" ∷ bytes "b" ∷ bytes "c" ∷ [];
      limit = 2;
      outputs =
          record { name = bytes "f"; formula = formula_f "a" "b" "c" "d" }
          ∷ record { name = bytes "g"; formula = formula_g "a" "b" "c" "d" }
          ∷ [];
    }

-- sheet A with capitals, its bound line and its formulas in spellings of their own, and what it says: the bound names are
-- spelled as the `in` line spells them, and each output as its own line does
abbrev pub sheet_capitals : List ℕ
sheet_capitals = bytes "(design 1)\n(in A B C d)\n(bound a B c)\n(limit 2)\n(out F (xor A b C D))\n(out g (and (xor a B c) d))\n(end)\n"

abbrev pub design_capitals : Design
design_capitals =
    record {
      inputs = bytes "A" ∷ bytes "B" ∷ bytes "C" ∷ bytes "d" ∷ [];
      bound = bytes "A" ∷ bytes "B" ∷ bytes "C" ∷ [];
      limit = 2;
      outputs =
          record { name = bytes "F"; formula = formula_f "A" "b" "C" "D" }
          ∷ record { name = bytes "g"; formula = formula_g "a" "B" "c" "d" }
          ∷ [];
    }

-- a sheet by its limit
abbrev pub with_limit : String → List ℕ
with_limit n = bytes "(design 1)\n(in a b)\n(bound a)\n(limit " ++ (bytes n ++ bytes ")\n(out f (and a b))\n(end)\n")

-- a sheet of one line, by a byte behind its bracket
abbrev pub first_line : ℕ → List ℕ
first_line b = bytes "(design 1)" ++ (b ∷ bytes "\n")

-- a sheet by its lines after `(design 1)`, and by its lines after the `limit` line
abbrev pub after_design : String → List ℕ
after_design s = bytes "(design 1)\n" ++ bytes s

abbrev pub after_limit : String → List ℕ
after_limit s = bytes "(design 1)\n(in a b)\n(bound a)\n(limit 0)\n" ++ bytes s

-- `(not` so many times around an atom, and so many negations
abbrev pub nested : ℕ → String → List ℕ
nested zero s = bytes s
nested (suc k) s = bytes "(not " ++ (nested k s ++ bytes ")")

abbrev pub negations : ℕ → Formula → Formula
negations zero f = f
negations (suc k) f = negation (negations k f)

-- a sheet by its formula, and what it says
abbrev pub with_formula : List ℕ → List ℕ
with_formula f = after_limit "(out f " ++ (f ++ bytes ")\n(end)\n")

abbrev pub design_of : Formula → Design
design_of f =
    record {
      inputs = bytes "a" ∷ bytes "b" ∷ [];
      bound = bytes "a" ∷ [];
      limit = 0;
      outputs = record { name = bytes "f"; formula = f } ∷ [];
    }
