-- `kinds`: each turn meets a vertex; where its class of q is none of those met in its class of o, its part has one more.
use Rattle.lowerbounds.specs.Counting.{Counting, KindsSoFar}
use Rattle.lowerbounds.proofs.kinds.Given as goal

abbrev pub invariant-loop-x : goal.invariant-loop-x
invariant-loop-x l = Counting l.cl l.o l.q l.x l.seen l.g × KindsSoFar l.cl l.o l.q l.x l.r
