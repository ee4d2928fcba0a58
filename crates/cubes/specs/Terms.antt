-- The same as formulas: a cube is the conjunction of its literals, an output the disjunction of its on-set
-- (clause 13.7). Assumes nothing.
use Rattle.std.specs.Prelude.{Bool, true, false, List, [], ◌∷◌, map, ℕ}
use Rattle.bits.specs.Logic.{pick}
use Rattle.names.specs.Name.{Name}
use Rattle.cursor.specs.Opening.{Gate, and_gate, or_gate}
use Rattle.formula.specs.Tree.{Formula, input, constant, negation, gate, Operands, none, more}
use Rattle.cubes.specs.Cube.{Literal, is_zero, is_one, any, Cube}
use Rattle.cubes.specs.Cover.{marked}

abbrev pub operands_of : List Formula → Operands
operands_of [] = none
operands_of (f ∷ fs) = more f (operands_of fs)

-- formulas under a gate: one stands alone, and none is a constant
unfoldable pub joined : Gate → Bool → List Formula → Formula
joined g b [] = constant b
joined g b (f ∷ []) = f
joined g b (e ∷ f ∷ fs) = gate g e f (operands_of fs)

-- the literals of the inputs ns
unfoldable pub literal_formulas : List Name → List Literal → List Formula
literal_formulas [] ls = []
literal_formulas (n ∷ ns) [] = []
literal_formulas (n ∷ ns) (is_zero ∷ ls) = negation (input n) ∷ literal_formulas ns ls
literal_formulas (n ∷ ns) (is_one ∷ ls) = input n ∷ literal_formulas ns ls
literal_formulas (n ∷ ns) (any ∷ ls) = literal_formulas ns ls

abbrev pub cube_formula : List Name → Cube → Formula
cube_formula ns c = joined and_gate true (literal_formulas ns c.literals)

-- the cubes with a 1 for output o
unfoldable pub on_set : ℕ → List Cube → List Cube
on_set o [] = []
on_set o (c ∷ cs) =
    let others = on_set o cs in
    pick (marked c o) (c ∷ others) others

unfoldable pub cover_formula : List Name → List Cube → ℕ → Formula
cover_formula ns cs o = joined or_gate false (map (cube_formula ns) (on_set o cs))
