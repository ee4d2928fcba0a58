-- The digits of p below i have the first k digits of n.
use Rattle.numbering.specs.Number.{Spreading}
use Rattle.numbering.proofs.spread.Given as goal

abbrev pub invariant-loop-i : goal.invariant-loop-i
invariant-loop-i l = Spreading l.n l.p l.i l.r l.k
