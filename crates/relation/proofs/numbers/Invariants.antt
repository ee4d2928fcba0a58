use Rattle.relation.specs.Refining.{Numbering}
use Rattle.relation.proofs.numbers.Given as goal

abbrev pub invariant-loop-x : goal.invariant-loop-x
invariant-loop-x l = Numbering l.keys l.x l.next l.r
