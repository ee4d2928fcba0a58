use Rattle.joint.specs.Merge.{Spread}
use Rattle.joint.proofs.expand.Given as goal

abbrev pub invariant-loop-x : goal.invariant-loop-x
invariant-loop-x l = Spread l.place l.codes l.x l.r
