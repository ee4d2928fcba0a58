-- What opens a formula: the first byte tells whether a name, a constant or an operator follows (clause 5.3). Assumes nothing.
use Rattle.std.specs.Prelude.{Bool, true, false, List, [], ◌∷◌, ℕ, eqb}
use Rattle.bits.specs.Logic.{pick}
use Rattle.text.specs.Bytes.{Read, found, bad, after, eat, space, open_bracket}
use Rattle.names.specs.Name.{Name, letter, word, after_word, read_name, operator, Operator, not_op, and_op, or_op, xor_op, none_op}

-- the operators of two or more operands
pub data Gate : Type 0 where
  and_gate or_gate xor_gate : Gate

-- what opens a formula: a name, a digit, or a bracket with an operator word and a space
pub data Opening : Type 0 where
  name-opens : Name → Opening
  digit-opens : Bool → Opening
  not-opens : Opening
  gate_opens : Gate → Opening

-- the space after an operator word
abbrev pub spaced : Operator → List ℕ → Read Opening
spaced not_op s = after (eat (space ∷ []) s) (λ _ t. found not-opens t)
spaced and_op s = after (eat (space ∷ []) s) (λ _ t. found (gate_opens and_gate) t)
spaced or_op s = after (eat (space ∷ []) s) (λ _ t. found (gate_opens or_gate) t)
spaced xor_op s = after (eat (space ∷ []) s) (λ _ t. found (gate_opens xor_gate) t)
spaced none_op s = bad

unfoldable pub read_opening : List ℕ → Read Opening
read_opening [] = bad
read_opening (b ∷ s) =
    pick (letter b) (after (read_name (b ∷ s)) (λ n t. found (name-opens n) t))
    (pick (eqb b 0x30) (found (digit-opens false) s)
    (pick (eqb b 0x31) (found (digit-opens true) s)
    (pick (eqb b open_bracket) (spaced (operator (word s)) (after_word s)) bad)))
