-- `put_names`: each turn puts one item more. Assumes nothing.
use Rattle.emit.specs.ListLaws.{Listing}
use Rattle.emit.proofs.put_names.Given as goal

abbrev pub invariant-loop-i : goal.invariant-loop-i
invariant-loop-i l = Listing l.ns l.initial.buf l.buf l.at l.p l.i
