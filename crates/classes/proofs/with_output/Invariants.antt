-- `with_output`: each turn joins one vertex's class to its key. Assumes nothing.
use Rattle.classes.proofs.Keys.{Joining}
use Rattle.classes.specs.Answer.{local_at}
use Rattle.classes.proofs.with_output.Given as goal

abbrev pub invariant-loop-x : goal.invariant-loop-x
invariant-loop-x l = Joining l.initial.list (local_at l.l.classes) l.vertices l.list l.x
