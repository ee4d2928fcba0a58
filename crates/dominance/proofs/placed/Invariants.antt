-- `placed`: the outputs before o have their rows. Assumes nothing.
use Rattle.dominance.specs.Kept.{Placed}
use Rattle.dominance.proofs.placed.Given as goal

abbrev pub invariant-loop-o : goal.invariant-loop-o
invariant-loop-o l = Placed l.rows l.by l.o l.r
