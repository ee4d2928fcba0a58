-- `put_vertex`: each turn sets the digit of one free row. Assumes nothing.
use Rattle.comparing.specs.Filling.{Put}
use Rattle.comparing.proofs.put_vertex.Given as goal

abbrev pub invariant-loop-y : goal.invariant-loop-y
invariant-loop-y l = Put l.t l.at l.row l.shape.free l.y l.initial.digits l.digits
