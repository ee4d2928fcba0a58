-- The value of a formula (clause 5.1) on a row, whose highest digit is the value of the first input (clauses 5.5 and 5.6).
-- Assumes nothing.
use Rattle.std.specs.Prelude.{Bool, true, false, not, ◌&&◌, ◌||◌, List, [], ◌∷◌, ℕ, suc, ◌%◌, eqb, length}
use Rattle.bits.specs.Logic.{pick}
use Rattle.bits.specs.Digit.{on}
use Rattle.names.specs.Name.{Name, same_name}
use Rattle.cursor.specs.Opening.{Gate, and_gate, or_gate, xor_gate}
use Rattle.formula.specs.Tree.{Formula, input, constant, negation, gate, Operands, none, more}

abbrev pub every : List Bool → Bool
every [] = true
every (v ∷ vs) = v && every vs

abbrev pub some : List Bool → Bool
some [] = false
some (v ∷ vs) = v || some vs

-- how many are true
abbrev pub count : List Bool → ℕ
count [] = 0
count (true ∷ vs) = suc (count vs)
count (false ∷ vs) = count vs

abbrev pub odd : ℕ → Bool
odd n = eqb (n % 2) 1

unfoldable pub combine : Gate → List Bool → Bool
combine and_gate vs = every vs
combine or_gate vs = some vs
combine xor_gate vs = odd (count vs)

-- the value under an assignment of values to names
unfoldable mutual
  pub value : (Name → Bool) → Formula → Bool
  value v (input n) = v n
  value v (constant b) = b
  value v (negation f) = not (value v f)
  value v (gate g e f fs) = combine g (value v e ∷ value v f ∷ values v fs)

  pub values : (Name → Bool) → Operands → List Bool
  values v none = []
  values v (more f fs) = value v f ∷ values v fs

-- the value of the input n on row r, for the inputs of the `in` line in their order
unfoldable pub on_row : List Name → ℕ → Name → Bool
on_row [] r n = false
on_row (m ∷ ms) r n = pick (same_name m n) (on r (length ms)) (on_row ms r n)
