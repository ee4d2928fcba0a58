-- The first y vertices are looked at.
use Rattle.holding.specs.Wants.{Wanted}
use Rattle.holding.proofs.wanted.Given as goal

abbrev pub invariant-loop-y : goal.invariant-loop-y
invariant-loop-y l = Wanted l.cl l.o l.mask l.y l.dom l.own l.owns l.wants l.meet
