-- `distinct`: each turn passes one name that does not stand again. Assumes nothing.
use Rattle.sheet.specs.DistinctLaws.{Passed}
use Rattle.sheet.proofs.distinct.Given as goal

abbrev pub invariant-loop-i : goal.invariant-loop-i
invariant-loop-i l = Passed l.ns l.i
