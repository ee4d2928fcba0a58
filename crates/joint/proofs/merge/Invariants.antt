use Rattle.joint.specs.Merge.{Merged}
use Rattle.joint.proofs.merge.Given as goal

abbrev pub invariant-loop-x : goal.invariant-loop-x
invariant-loop-x l = Merged l.cl l.j l.kn l.val l.x l.n l.first l.place
