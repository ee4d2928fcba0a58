use Rattle.relation.specs.Refining.{Cutting}
use Rattle.relation.proofs.cut.Given as goal

abbrev pub invariant-loop-i : goal.invariant-loop-i
invariant-loop-i l = Cutting l.cl l.given l.from l.gs l.n l.v l.i l.r
