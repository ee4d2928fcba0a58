-- `gather`: each turn adds one input to the row, by doubling. Assumes nothing.
use mathlib.Core.Path.{◌≡◌}
use lib.ListN.{take}
use Rattle.classes.specs.Seen.{gathered}
use Rattle.classes.proofs.gather.Given as goal

abbrev pub invariant-loop-k : goal.invariant-loop-k
invariant-loop-k l = l.r ≡ gathered (take l.k-index l.digits) l.z
