use Rattle.joint.specs.Digits.{Drawn}
use Rattle.joint.proofs.drawn.Given as goal

abbrev pub invariant-loop-i : goal.invariant-loop-i
invariant-loop-i l = Drawn l.s l.first l.i l.r
