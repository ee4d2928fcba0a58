use Rattle.relation.specs.Refining.{Valued}
use Rattle.relation.proofs.values.Given as goal

abbrev pub invariant-loop-x : goal.invariant-loop-x
invariant-loop-x l = Valued l.given l.g l.x l.r
