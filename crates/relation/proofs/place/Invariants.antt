use Rattle.relation.specs.Refining.{Placed}
use Rattle.relation.proofs.place.Given as goal

abbrev pub invariant-loop-x : goal.invariant-loop-x
invariant-loop-x l = Placed l.initial.r l.labels l.parts l.i l.x l.r
