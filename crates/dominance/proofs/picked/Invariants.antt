-- `picked`: the budgets before i are taken over. Assumes nothing.
use Rattle.dominance.specs.Dominance.{Picked}
use Rattle.dominance.proofs.picked.Given as goal

abbrev pub invariant-loop-i : goal.invariant-loop-i
invariant-loop-i l = Picked l.budgets l.from l.i l.r
