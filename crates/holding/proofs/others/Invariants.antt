-- The first l classes are looked at.
use Rattle.holding.specs.Full.{Others}
use Rattle.holding.proofs.others.Given as goal

abbrev pub invariant-loop-l : goal.invariant-loop-l
invariant-loop-l l = Others l.cl l.o l.p l.l l.r
