-- Texts in BLIF and what is made of them: a network of sheet A with a cell that no node reads and tables of zeros, and one
-- without cells, written out; a text as other tools write them, read; and texts that are refused or leave a signal without a
-- value. Each is computed by the definitions. Assumes nothing.
use Rattle.std.specs.Prelude.{◌≡◌, refl, Bool, true, false, List, [], ◌∷◌, ◌++◌, ℕ}
use Rattle.std.proofs.Math.Option.{Option, some, none}
use Prim.Native.String.{String}
use Rattle.text.specs.Bytes.{bytes}
use Rattle.design.specs.Sheets.{sheet_capitals}
use Rattle.blif.specs.Model.{Model}
use Rattle.blif.specs.Reader.{read_blif}
use Rattle.blif.specs.Value.{value_in}
use Rattle.blif.specs.Export.{untouched, export, written}
use Rattle.blif.specs.Computing.{computing}

-- sheet A
abbrev sheet : List ℕ
sheet =
    bytes "(design 1)\n(in a b c d)\n(bound a b c)\n(limit 2)\n"
    ++ bytes "(out f (xor a b c d))\n(out g (and (xor a b c) d))\n(end)\n"

abbrev luts : List ℕ
luts = bytes "(network 1)\n(lut _0 (a b c) 01101001)\n(lut _1 (a b c) 00000000)\n"

abbrev network : List ℕ
network = luts ++ bytes "(node f (_0 d) 0110)\n(node g (_0 d) 0000)\n(count 2)\n(end)\n"

-- g reads a cell more than its width
abbrev wide : List ℕ
wide = luts ++ bytes "(node f (_0 d) 0110)\n(node g (_0 _1 d) 00000001)\n(count 2)\n(end)\n"

-- the first network's text, of 149 bytes
abbrev text : List ℕ
text =
    bytes ".model panel\n.inputs a b c d\n.outputs f g\n"
    ++ (bytes ".names a b c CC_0\n001 1\n010 1\n100 1\n111 1\n"
    ++ (bytes ".names a b c CC_1\n" ++ (bytes ".names CC_0 d f\n01 1\n10 1\n" ++ bytes ".names CC_0 d g\n.end\n")))

-- 74 bytes
abbrev blanks : List ℕ
blanks = bytes "                                                                          "

-- two bytes more than the text
abbrev buffer : List ℕ
buffer = blanks ++ (blanks ++ bytes " !?")

-- sheet A with capitals, and a network of it with every name in another case: the text spells each name as the sheet first gives it
abbrev network_other_case : List ℕ
network_other_case =
    bytes "(network 1)\n(lut _0 (a b c) 01101001)\n"
    ++ bytes "(node f (_0 D) 0110)\n(node G (_0 D) 0001)\n(count 1)\n(end)\n"

abbrev text_capitals : List ℕ
text_capitals =
    bytes ".model panel\n.inputs A B C d\n.outputs F g\n"
    ++ (bytes ".names A B C CC_0\n001 1\n010 1\n100 1\n111 1\n"
    ++ bytes ".names CC_0 d F\n01 1\n10 1\n.names CC_0 d g\n11 1\n.end\n")

-- a sheet of constants, whose network has no cells
abbrev constants : List ℕ
constants = bytes "(design 1)\n(in a)\n(bound a)\n(limit 0)\n(out f 1)\n(out g 0)\n(end)\n"

abbrev constant_network : List ℕ
constant_network = bytes "(network 1)\n(node f () 1)\n(node g () 0)\n(count 0)\n(end)\n"

abbrev constant_text : List ℕ
constant_text = bytes ".model panel\n.inputs a\n.outputs f g\n.names f\n1\n.names g\n.end\n"

-- the value of f that a text gives
abbrev value_of : Option Model → List Bool → Option Bool
value_of none vs = none
value_of (some m) vs = value_in m vs (bytes "f")

-- the name of the model that a text says
abbrev name_of : Option Model → Option (List ℕ)
name_of none = none
name_of (some m) = some m.name

abbrev name_in : List ℕ → Option (List ℕ)
name_in t = name_of (read_blif t)

abbrev at_f : List ℕ → List Bool → Option Bool
at_f t vs = value_of (read_blif t) vs

-- f is 1 where a and b are or c is: its block stands before that of what it reads, the inputs on two lines
abbrev other : List ℕ
other =
    bytes "\n.model m\n.inputs a\n.names x c\tf\n1- 1\n\n-1 1\n.inputs b  c\n .outputs f \n"
    ++ bytes ".names a b x\n11 1\n.end\n\n"

abbrev among : String → List ℕ
among s = bytes ".model m\n.inputs a b\n.outputs f\n" ++ (bytes s ++ bytes ".end\n")

abbrev refused : String → Type 0
refused s = read_blif (among s) ≡ none

pub record Worked : Type 0 where
  -- Export
  pub written_out : export sheet network buffer ≡ record { answer = written 149; buffer = text ++ bytes "!?" }
  pub one_byte_short : export sheet network (blanks ++ blanks) ≡ untouched 9 0 (blanks ++ blanks)
  pub over_its_width : export sheet wide [] ≡ untouched 11 5 []
  pub constants-written : export constants constant_network blanks
      ≡ record { answer = written 61; buffer = constant_text ++ bytes "             " }
  pub capitals_written : export sheet_capitals network_other_case buffer ≡ record { answer = written 136; buffer = text_capitals ++ bytes "             !?" }
  -- reading
  pub model_named : name_in text ≡ some (bytes "panel")
  pub other_name : name_in other ≡ some (bytes "m")
  pub f_odd : at_f text (true ∷ false ∷ false ∷ false ∷ []) ≡ some true
  pub f_even : at_f text (true ∷ false ∷ false ∷ true ∷ []) ≡ some false
  pub constant_one : at_f constant_text (false ∷ []) ≡ some true
  pub other_and : at_f other (true ∷ true ∷ false ∷ []) ≡ some true
  pub other_or : at_f other (false ∷ true ∷ true ∷ []) ≡ some true
  pub other_not : at_f other (true ∷ false ∷ false ∷ []) ≡ some false
  pub further_inputs : at_f (among ".inputs c\n.inputs d\n.names a f\n1 1\n") (true ∷ false ∷ false ∷ false ∷ []) ≡ some true
  pub further_output : at_f (among ".outputs g\n.names a f\n1 1\n") (true ∷ false ∷ []) ≡ some true
  -- no value
  pub undriven : at_f (among "") (true ∷ true ∷ []) ≡ none
  pub reads_undriven : at_f (among ".names a x f\n1- 1\n") (true ∷ true ∷ []) ≡ none
  pub loop : at_f (among ".names a g f\n1- 1\n.names f g\n1 1\n") (true ∷ true ∷ []) ≡ none
  -- refused
  pub driven_twice : refused ".names a f\n1 1\n.names b f\n1 1\n"
  pub input_driven : refused ".names b a\n1 1\n"
  pub zero_in_the_output_plane : refused ".names a f\n0 0\n"
  pub row_too_short : refused ".names a b f\n1 1\n"
  pub continued : refused ".names a \\\nf\n1 1\n"
  pub continued_inputs : refused ".inputs c \\\n.inputs d\n.names a f\n1 1\n"
  pub comment : refused "# f\n.names a f\n1 1\n"
  pub comment_after_outputs : refused ".outputs g # h\n.names a f\n1 1\n"
  pub comment_in_a_name : refused ".names a f#g\n1 1\n"
  pub carriage_return : refused ".names a f\r\n1 1\n"
  pub latch : refused ".latch a f 0\n"
  pub subcircuit : refused ".subckt m a=f\n"
  pub after_end : refused ".end\n"
  pub no_end : read_blif (bytes ".model m\n.inputs a\n.outputs f\n") ≡ none
  pub no_model : read_blif (bytes ".inputs a\n.outputs f\n.end\n") ≡ none
  pub no_inputs : read_blif (bytes ".model m\n.outputs f\n.names f\n1\n.end\n") ≡ none
  pub no_outputs : read_blif (bytes ".model m\n.inputs a\n.names a f\n1 1\n.end\n") ≡ none

pub worked : Worked
unfolding computing
worked =
    record {
      written_out = refl;
      one_byte_short = refl;
      over_its_width = refl;
      constants-written = refl;
      capitals_written = refl;
      model_named = refl;
      other_name = refl;
      f_odd = refl;
      f_even = refl;
      constant_one = refl;
      other_and = refl;
      other_or = refl;
      other_not = refl;
      further_inputs = refl;
      further_output = refl;
      undriven = refl;
      reads_undriven = refl;
      loop = refl;
      driven_twice = refl;
      input_driven = refl;
      zero_in_the_output_plane = refl;
      row_too_short = refl;
      continued = refl;
      continued_inputs = refl;
      comment = refl;
      comment_after_outputs = refl;
      comment_in_a_name = refl;
      carriage_return = refl;
      latch = refl;
      subcircuit = refl;
      after_end = refl;
      no_end = refl;
      no_model = refl;
      no_inputs = refl;
      no_outputs = refl;
    }
