-- `digits`: each turn gives one input its digit, from the last input to the first. Assumes nothing.
use Rattle.classes.proofs.Placing.{Placed}
use Rattle.classes.proofs.digits.Given as goal

abbrev pub invariant-loop-i : goal.invariant-loop-i
invariant-loop-i l = Placed l.bound l.n l.list l.next l.i
