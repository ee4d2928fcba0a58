-- The first x codes have their numbers written.
use Rattle.numbering.specs.Number.{Wrote}
use Rattle.numbering.proofs.write.Given as goal

abbrev pub invariant-loop-x : goal.invariant-loop-x
invariant-loop-x l = Wrote l.nums l.p l.cap l.x l.fn.codes l.r
