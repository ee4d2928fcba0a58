-- `span_of`: each turn passes a line that is not the one asked for. Assumes nothing.
use Prim.Native.Nat.{◌≤◌, ◌-◌}
use lib.ListN.{length}
use Rattle.locate.specs.Reached.{Reached}
use Rattle.locate.proofs.span_of.Given as goal

abbrev pub invariant-loop-at : goal.invariant-loop-at
invariant-loop-at l = Reached l.s l.at l.number × (1 ≤ l.line → l.number ≤ l.line)

abbrev pub decreases-loop-at : goal.decreases-loop-at
decreases-loop-at l = length l.s - l.at
