-- `put_inputs`: each turn puts the value of one input more, the first input first. Assumes nothing.
use Rattle.blif.specs.ItemLaws.{Inputs}
use Rattle.blif.proofs.put_inputs.Given as goal

abbrev pub invariant-loop-i : goal.invariant-loop-i
invariant-loop-i l = Inputs l.n l.r l.initial.buf l.buf l.at l.p l.i
