use Rattle.border.specs.Line.{Low}
use Rattle.border.proofs.labels.Given as goal

abbrev pub invariant-loop-i : goal.invariant-loop-i
invariant-loop-i l = Low l.i l.cl
