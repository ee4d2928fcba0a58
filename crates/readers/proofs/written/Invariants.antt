-- The digits of the first x vertices are written.
use Rattle.readers.specs.Known.{Wrote}
use Rattle.readers.proofs.written.Given as goal

abbrev pub invariant-loop-x : goal.invariant-loop-x
invariant-loop-x l = Wrote l.kn l.val l.initial.r l.x l.r
