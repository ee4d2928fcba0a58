use Rattle.subproblems.specs.Gathering.{Moved}
use Rattle.subproblems.proofs.moved.Given as goal

abbrev pub invariant-loop-i : goal.invariant-loop-i
invariant-loop-i l = Moved l.f l.perm l.i l.r
