-- A formula's print begins with the print of its opening. Assumes nothing.
use Rattle.std.specs.Prelude.{◌≡◌, refl, Bool, true, false, List, [], ◌∷◌, ◌++◌, ℕ}
use Rattle.std.proofs.Common.{ap, ◌∙◌, append_assoc}
use Rattle.text.specs.Bytes.{bytes, space, close_bracket}
use Rattle.cursor.specs.Opening.{Gate, and_gate, or_gate, xor_gate, digit-opens, not-opens, gate_opens}
use Rattle.cursor.specs.Front.{opening_print}
use Rattle.formula.specs.Tree.{Formula, constant, negation, gate, Operands, more}
use Rattle.formula.specs.Printer.{gate_word, print, prints}

pub print_constant : (b : Bool) (t : List ℕ) → print (constant b) ++ t ≡ opening_print (digit-opens b) ++ t
unfolding print
print_constant false t = refl
print_constant true t = refl

pub print_negation : (f : Formula) (t : List ℕ) → print (negation f) ++ t ≡ opening_print not-opens ++ (print f ++ (close_bracket ∷ t))
unfolding print
print_negation f t = ap (λ (u : List ℕ). bytes "(not " ++ u) (append_assoc (print f) (close_bracket ∷ []) t)

gate_word_lem : (g : Gate) (s t : List ℕ) → (bytes "(" ++ (gate_word g ++ (space ∷ s))) ++ t ≡ opening_print (gate_opens g) ++ (s ++ t)
gate_word_lem and_gate s t = refl
gate_word_lem or_gate s t = refl
gate_word_lem xor_gate s t = refl

pub print_gate : (g : Gate) (e f : Formula) (fs : Operands) (t : List ℕ)
    → print (gate g e f fs) ++ t ≡ opening_print (gate_opens g) ++ (print e ++ (prints (more f fs) ++ (close_bracket ∷ t)))
unfolding print
print_gate g e f fs t = gate_word_lem g _ t ∙ ap (λ (u : List ℕ). opening_print (gate_opens g) ++ u) (simp append_assoc)

pub prints_more : (f : Formula) (fs : Operands) (t : List ℕ) → prints (more f fs) ++ t ≡ space ∷ (print f ++ (prints fs ++ t))
unfolding print
prints_more f fs t = ap (λ (u : List ℕ). space ∷ u) (append_assoc (print f) (prints fs) t)
