-- How a formula is written (clauses 3.2 and 5.1). Assumes nothing.
use Rattle.std.specs.Prelude.{Bool, true, false, ◌&&◌, List, [], ◌∷◌, ◌++◌, ℕ}
use Rattle.text.specs.Bytes.{bytes, space, close_bracket}
use Rattle.names.specs.Name.{is_name}
use Rattle.cursor.specs.Opening.{Gate, and_gate, or_gate, xor_gate}
use Rattle.formula.specs.Tree.{Formula, input, constant, negation, gate, Operands, none, more}

abbrev pub gate_word : Gate → List ℕ
gate_word and_gate = bytes "and"
gate_word or_gate = bytes "or"
gate_word xor_gate = bytes "xor"

abbrev pub constant_byte : Bool → ℕ
constant_byte false = 0x30
constant_byte true = 0x31

unfoldable mutual
  pub print : Formula → List ℕ
  print (input n) = n
  print (constant b) = constant_byte b ∷ []
  print (negation f) = bytes "(not " ++ (print f ++ (close_bracket ∷ []))
  print (gate g e f fs) = bytes "(" ++ (gate_word g ++ (space ∷ (print e ++ (space ∷ (print f ++ (prints fs ++ (close_bracket ∷ [])))))))

  pub prints : Operands → List ℕ
  prints none = []
  prints (more f fs) = space ∷ (print f ++ prints fs)

-- whether every name in a formula is spelled as a name: the formulas that can be written
unfoldable mutual
  pub spelled : Formula → Bool
  spelled (input n) = is_name n
  spelled (constant b) = true
  spelled (negation f) = spelled f
  spelled (gate g e f fs) = spelled e && (spelled f && spelled_all fs)

  pub spelled_all : Operands → Bool
  spelled_all none = true
  spelled_all (more f fs) = spelled f && spelled_all fs
