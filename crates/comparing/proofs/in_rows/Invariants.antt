-- `in_rows`: each turn sets the digits of one vertex. Assumes nothing.
use Rattle.comparing.specs.Filling.{Filled}
use Rattle.comparing.proofs.in_rows.Given as goal

abbrev pub invariant-loop-x : goal.invariant-loop-x
invariant-loop-x l = Filled l.t l.lutat l.mask l.luts l.at l.shape l.x l.digits
