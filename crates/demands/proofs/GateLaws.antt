-- A gate on what it makes of no operand, and on one operand, gives that operand; `combine_one` says so of lists. Assumes nothing.
use Rattle.std.specs.Prelude.{◌≡◌, refl, Bool, []}
use Rattle.cursor.specs.Opening.{Gate, and_gate, or_gate, xor_gate}
use Rattle.formula.specs.Value.{combine}
use Rattle.formula.specs.Gates.{two}

pub two_none : (g : Gate) (x : Bool) → two g (combine g []) x ≡ x
unfolding combine
two_none and_gate x = refl
two_none or_gate x = refl
two_none xor_gate x = refl
