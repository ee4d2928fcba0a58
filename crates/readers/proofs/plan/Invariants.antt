-- The first o outputs are planned.
use Rattle.readers.specs.Masks.{Planned}
use Rattle.readers.proofs.plan.Given as goal

abbrev pub invariant-loop-o : goal.invariant-loop-o
invariant-loop-o l = Planned l.rows l.sh l.o l.ms l.ps l.caps l.spots
