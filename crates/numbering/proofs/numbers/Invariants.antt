-- The first x vertices are numbered.
use Rattle.numbering.specs.Number.{Numbered}
use Rattle.numbering.proofs.numbers.Given as goal

abbrev pub invariant-loop-x : goal.invariant-loop-x
invariant-loop-x l = Numbered l.cl l.codes l.o l.mask l.x l.nums
