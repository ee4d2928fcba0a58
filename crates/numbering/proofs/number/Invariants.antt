-- The first y vertices are passed.
use Rattle.numbering.specs.Number.{Passed}
use Rattle.numbering.proofs.number.Given as goal

abbrev pub invariant-loop-y : goal.invariant-loop-y
invariant-loop-y l = Passed l.cl l.codes l.o l.mask l.x l.nums l.y l.next
