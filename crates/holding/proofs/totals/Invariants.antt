-- The first l classes are counted.
use Rattle.holding.specs.Wants.{Totals}
use Rattle.holding.proofs.totals.Given as goal

abbrev pub invariant-loop-l : goal.invariant-loop-l
invariant-loop-l l = Totals l.cl l.owns l.base l.o l.l l.t
