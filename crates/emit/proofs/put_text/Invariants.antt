-- `put_text`: each turn puts one byte more. Assumes nothing.
use lib.ListN.{take}
use Rattle.emit.specs.Written.{Written}
use Rattle.emit.proofs.put_text.Given as goal

abbrev pub invariant-loop-b : goal.invariant-loop-b
invariant-loop-b l = Written l.b-index l.initial.buf l.buf l.at l.p (take l.b-index l.s)
