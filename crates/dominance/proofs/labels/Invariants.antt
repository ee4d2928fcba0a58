-- `labels`: the labels before i are taken over. Assumes nothing.
use Rattle.dominance.specs.Dominance.{Taken}
use Rattle.dominance.proofs.labels.Given as goal

abbrev pub invariant-loop-i : goal.invariant-loop-i
invariant-loop-i l = Taken l.cl l.from l.i l.r
