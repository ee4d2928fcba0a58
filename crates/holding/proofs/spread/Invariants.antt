-- The set is joined in the first i cells outside the mask.
use Rattle.holding.specs.Joined.{Spreading}
use Rattle.holding.proofs.spread.Given as goal

abbrev pub invariant-loop-i : goal.invariant-loop-i
invariant-loop-i l = Spreading l.mask l.d l.i l.r
