use Rattle.subproblems.specs.Gathering.{Gathered}
use Rattle.subproblems.proofs.gather.Given as goal

abbrev pub invariant-loop-o : goal.invariant-loop-o
invariant-loop-o l = Gathered l.asked l.rows l.o l.count l.from l.cells l.tables
