use Rattle.joint.specs.Merge.{Picked}
use Rattle.joint.proofs.relabel.Given as goal

abbrev pub invariant-loop-i : goal.invariant-loop-i
invariant-loop-i l = Picked l.cl l.first l.i l.r
