-- The first y vertices are looked at.
use Rattle.holding.specs.Full.{Crowd}
use Rattle.holding.proofs.classes_in.Given as goal

abbrev pub invariant-loop-y : goal.invariant-loop-y
invariant-loop-y l = Crowd l.cl l.codes l.o l.p l.b l.y l.seen l.count
