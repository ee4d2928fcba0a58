-- `zero_first`: the codes before x are complemented. Assumes nothing.
use Rattle.fewest.specs.Count.{Zeroed}
use Rattle.fewest.proofs.zero_first.Given as goal

abbrev pub invariant-loop-x : goal.invariant-loop-x
invariant-loop-x l = Zeroed l.codes l.x l.r
