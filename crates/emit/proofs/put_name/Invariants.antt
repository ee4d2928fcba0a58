-- `put_name`: each turn puts the lowest byte of what is left of the number, which falls. Assumes nothing.
use Rattle.emit.specs.NameLaws.{Putting}
use Rattle.emit.proofs.put_name.Given as goal

abbrev pub invariant-loop-rest : goal.invariant-loop-rest
invariant-loop-rest l = Putting l.initial.buf l.buf l.at l.v l.p l.rest

abbrev pub decreases-loop-rest : goal.decreases-loop-rest
decreases-loop-rest l = l.rest
