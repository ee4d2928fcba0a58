use Rattle.relation.specs.Refining.{Copied}
use Rattle.relation.proofs.copied.Given as goal

abbrev pub invariant-loop-k : goal.invariant-loop-k
invariant-loop-k l = Copied l.cl l.from l.k l.r
