-- What the sheets to try say, as designs, and networks in short. Assumes nothing.
use Rattle.std.specs.Prelude.{Bool, List, [], ◌∷◌, map, ℕ, eqb}
use Prim.Native.String.{String}
use Rattle.text.specs.Bytes.{bytes}
use Rattle.cursor.specs.Opening.{and_gate, or_gate, xor_gate}
use Rattle.formula.specs.Tree.{Formula, input, gate, none, more}
use Rattle.sheet.specs.Lines.{Output}
use Rattle.sheet.specs.Examine.{Design}
use Rattle.network.specs.Network.{Network, Node}

abbrev named : String → Formula
named n = input (bytes n)

abbrev output : String → Formula → Output
output n f = record { name = bytes n; formula = f }

abbrev xor2 : Formula → Formula → Formula
xor2 x y = gate xor_gate x y none

abbrev xor3 : Formula → Formula → Formula → Formula
xor3 x y z = gate xor_gate x y (more z none)

abbrev pub design_c : ℕ → Design
design_c n =
    record {
      inputs = bytes "a" ∷ bytes "b" ∷ bytes "c" ∷ [];
      bound = bytes "a" ∷ bytes "b" ∷ [];
      limit = n;
      outputs = output "f" (xor2 (named "a") (named "c")) ∷ output "g" (xor2 (named "b") (named "c")) ∷ [];
    }

abbrev pub design_d : ℕ → Design
design_d n =
    record {
      inputs = bytes "a" ∷ bytes "b" ∷ bytes "c" ∷ [];
      bound = bytes "a" ∷ bytes "b" ∷ [];
      limit = n;
      outputs =
          output "f" (xor2 (named "a") (named "c"))
          ∷ output "g" (xor2 (named "b") (named "c"))
          ∷ output "h" (xor3 (named "a") (named "b") (named "c"))
          ∷ [];
    }

-- four inputs, the first two bound
abbrev four_inputs : ℕ → List Output → Design
four_inputs n os =
    record {
      inputs = bytes "a" ∷ bytes "b" ∷ bytes "c" ∷ bytes "d" ∷ [];
      bound = bytes "a" ∷ bytes "b" ∷ [];
      limit = n;
      outputs = os;
    }

abbrev and2 : Formula → Formula → Formula
and2 x y = gate and_gate x y none

abbrev or2 : Formula → Formula → Formula
or2 x y = gate or_gate x y none

abbrev pub design_e : Design
design_e =
    four_inputs 2
    (output "f" (or2 (and2 (named "a") (named "c")) (and2 (named "b") (named "d")))
    ∷ output "g" (xor3 (named "a") (named "b") (named "c"))
    ∷ [])

abbrev pub design_f : Design
design_f = four_inputs 0 (output "f" (or2 (named "c") (named "d")) ∷ [])

abbrev pub design_g : ℕ → Design
design_g n =
    four_inputs n
    (output "f"
    (or2 (gate and_gate (named "a") (named "b") (more (named "c") none)) (and2 (xor2 (named "a") (named "b")) (named "d")))
    ∷ [])

-- G's output with two more, which ask for (xor a b) and (and a b)
abbrev pub design_forced : Design
design_forced =
    four_inputs 2
    (output "f"
    (or2 (gate and_gate (named "a") (named "b") (more (named "c") none)) (and2 (xor2 (named "a") (named "b")) (named "d")))
    ∷ output "g" (xor3 (named "a") (named "b") (named "c"))
    ∷ output "h" (xor2 (and2 (named "a") (named "b")) (named "c"))
    ∷ [])

abbrev pub design_h : Design
design_h =
    record {
      inputs = bytes "a" ∷ bytes "b" ∷ [];
      bound = bytes "a" ∷ bytes "b" ∷ [];
      limit = 1;
      outputs = output "f" (and2 (named "a") (named "b")) ∷ [];
    }

-- seven inputs, the first five bound
abbrev seven_inputs : ℕ → List Output → Design
seven_inputs n os =
    record {
      inputs = bytes "a" ∷ bytes "b" ∷ bytes "c" ∷ bytes "d" ∷ bytes "e" ∷ bytes "x" ∷ bytes "y" ∷ [];
      bound = bytes "a" ∷ bytes "b" ∷ bytes "c" ∷ bytes "d" ∷ bytes "e" ∷ [];
      limit = n;
      outputs = os;
    }

abbrev pub design_i : ℕ → Design
design_i n =
    seven_inputs n
    (output "f" (or2 (and2 (named "a") (named "x")) (and2 (named "e") (named "y")))
    ∷ output "g" (xor2 (named "b") (named "x"))
    ∷ output "h" (xor2 (named "c") (named "x"))
    ∷ [])

-- I with its fourth output
abbrev pub design_i4 : ℕ → Design
design_i4 n =
    seven_inputs n
    (output "f" (or2 (and2 (named "a") (named "x")) (and2 (named "e") (named "y")))
    ∷ output "g" (xor2 (named "b") (named "x"))
    ∷ output "h" (xor2 (named "c") (named "x"))
    ∷ output "i" (xor2 (named "d") (named "x"))
    ∷ [])

-- where a is 0 all outputs are 0; where it is 1 each of them sees another bound input
abbrev pub design17 : ℕ → Design
design17 n =
    seven_inputs n
    (output "f" (and2 (named "a") (xor2 (named "b") (named "x")))
    ∷ output "g" (and2 (named "a") (xor2 (named "c") (named "x")))
    ∷ output "h" (and2 (named "a") (xor2 (named "d") (named "x")))
    ∷ output "i" (and2 (named "a") (xor2 (named "e") (named "x")))
    ∷ [])

-- digits, and a node by what it reads and its digits
abbrev pub bits : String → List Bool
bits s = map (λ (b : ℕ). eqb b 0x31) (bytes s)

abbrev pub node : List ℕ → List Bool → Node
node is ds = record { reads = is; digits = ds }

abbrev pub network : List (List Bool) → List Node → Network
network ts xs = record { luts = ts; nodes = xs }
