-- `read_names`: each turn looks at one digit of the mask. Assumes nothing.
use Rattle.netnames.specs.NumbersLaws.{Reading}
use Rattle.network.specs.Shown.{shown}
use Rattle.netnames.proofs.read_names.Given as goal

abbrev pub invariant-loop-i : goal.invariant-loop-i
invariant-loop-i l = Reading l.mask l.u l.i l.r.count (shown l.r)
