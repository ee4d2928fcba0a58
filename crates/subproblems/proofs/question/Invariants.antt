use Rattle.subproblems.specs.Gathering.{Turned}
use Rattle.subproblems.proofs.question.Given as goal

abbrev pub invariant-loop-o : goal.invariant-loop-o
invariant-loop-o l = Turned l.asked l.rows l.perm l.o l.r
