-- A formula at the front of a text: spelled, printed there, and followed by what may follow it. Operands likewise: no
-- further one follows them. Assumes nothing.
use Rattle.std.specs.Prelude.{◌≡◌, true, false, List, ◌++◌, ℕ}
use Rattle.names.specs.Front.{Stops}
use Rattle.formula.specs.Tree.{Formula, input, constant, negation, gate, Operands, none, more}
use Rattle.formula.specs.Printer.{print, prints, spelled, spelled_all}
use Rattle.formula.specs.Reader.{space_next}

-- after an input's name the text stops; anything may follow a digit and a bracket
abbrev pub Ends : Formula → List ℕ → Type 0
Ends (input n) t = Stops t
Ends (constant b) t = Unit {0}
Ends (negation f) t = Unit {0}
Ends (gate g e f fs) t = Unit {0}

-- each operand is followed by the next, or by the text after them all
abbrev pub AllEnd : Operands → List ℕ → Type 0
AllEnd none t = Unit {0}
AllEnd (more f fs) t = Ends f (prints fs ++ t) × AllEnd fs t

pub record FormulaFront (s : List ℕ) (f : Formula) (t : List ℕ) : Type 0 where
  pub is_spelled : spelled f ≡ true
  pub is_split : s ≡ print f ++ t
  pub ends : Ends f t

pub record OperandsFront (s : List ℕ) (fs : Operands) (t : List ℕ) : Type 0 where
  pub are_spelled : spelled_all fs ≡ true
  pub is_split : s ≡ prints fs ++ t
  pub all_end : AllEnd fs t
  pub no_space : space_next t ≡ false
