-- `examine`: the lines so far are asked as the whole sheet is, line after line. Assumes nothing.
use Rattle.design.specs.ExamineLaws.{Along}
use lib.ListN.{length}
use Prim.Native.Nat.{◌-◌}
use Rattle.design.proofs.examine.Given as goal

abbrev pub invariant-loop-at : goal.invariant-loop-at
invariant-loop-at l = Along l.s l.p l.k l.at l.n

abbrev pub decreases-loop-at : goal.decreases-loop-at
decreases-loop-at l = length l.s - l.at
