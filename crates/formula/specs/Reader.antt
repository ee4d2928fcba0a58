-- How a formula is read: what opens it, its operands, which are formulas too, and its bracket (clauses 5.2 and 5.3). Assumes nothing.
use Rattle.std.specs.Prelude.{Bool, false, List, [], ◌∷◌, ℕ, zero, suc, eqb, length}
use Rattle.bits.specs.Logic.{pick}
use Rattle.text.specs.Bytes.{Read, found, bad, after, eat, space, close_bracket}
use Rattle.cursor.specs.Opening.{Gate, Opening, name-opens, digit-opens, not-opens, gate_opens, read_opening}
use Rattle.formula.specs.Tree.{Formula, input, constant, negation, gate, Operands, none, more}

-- whether a byte comes next
abbrev pub next_is : ℕ → List ℕ → Bool
next_is c [] = false
next_is c (b ∷ s) = eqb b c

abbrev pub space_next : List ℕ → Bool
space_next s = next_is space s

abbrev pub rest : List ℕ → List ℕ
rest [] = []
rest (b ∷ s) = s

-- a negation or a gate, past its closing bracket; a gate has two or more operands
abbrev pub close_not : Formula → List ℕ → Read Formula
close_not f s = after (eat (close_bracket ∷ []) s) (λ _ t. found (negation f) t)

abbrev pub close_gate : Gate → Formula → Operands → List ℕ → Read Formula
close_gate g e none s = bad
close_gate g e (more f fs) s = after (eat (close_bracket ∷ []) s) (λ _ t. found (gate g e f fs) t)

-- the formula that an opening begins, where `inner` is the formula read after it, and `operands` reads a gate's further ones
abbrev pub finish : Opening → List ℕ → Read Formula → (List ℕ → Read Operands) → Read Formula
finish (name-opens n) t inner operands = found (input n) t
finish (digit-opens b) t inner operands = found (constant b) t
finish not-opens t inner operands = after inner (λ f u. close_not f u)
finish (gate_opens g) t inner operands = after inner (λ e u. after (operands u) (λ fs v. close_gate g e fs v))

-- The first argument bounds the calls; as many as the text has bytes, and one, are always enough.
unfoldable mutual
  pub read_within : ℕ → List ℕ → Read Formula
  read_within zero s = bad
  read_within (suc k) s =
      after (read_opening s) (λ i t.
      let inner = read_within k t in
      finish i t inner (λ u. operands_within k u))

  -- operands, each after a space, as long as a space comes next
  pub operands_within : ℕ → List ℕ → Read Operands
  operands_within zero s = bad
  operands_within (suc k) s =
      let others = after (read_within k (rest s)) (λ f t. after (operands_within k t) (λ fs u. found (more f fs) u)) in
      pick (space_next s) others (found none s)

unfoldable pub read_formula : List ℕ → Read Formula
read_formula s = read_within (suc (length s)) s

unfoldable pub read_operands : List ℕ → Read Operands
read_operands s = operands_within (suc (length s)) s
