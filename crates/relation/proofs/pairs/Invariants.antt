use Rattle.relation.specs.Refining.{Paired}
use Rattle.relation.proofs.pairs.Given as goal

abbrev pub invariant-loop-x : goal.invariant-loop-x
invariant-loop-x l = Paired l.cl l.o l.parts l.x l.r
