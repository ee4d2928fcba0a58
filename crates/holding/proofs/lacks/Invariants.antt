-- The first l classes are counted.
use Rattle.holding.specs.Reach.{Lacks}
use Rattle.holding.proofs.lacks.Given as goal

abbrev pub invariant-loop-l : goal.invariant-loop-l
invariant-loop-l l = Lacks l.cl l.owns l.wants l.base l.o l.p l.l l.total l.news
