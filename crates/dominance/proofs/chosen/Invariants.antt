-- `chosen`: each of the first i outputs of order is dominated by one of the n kept so far. Assumes nothing.
use Rattle.dominance.specs.Dominance.{Choosing}
use Rattle.dominance.proofs.chosen.Given as goal

abbrev pub invariant-loop-i : goal.invariant-loop-i
invariant-loop-i l = Choosing l.cl l.budgets l.v l.m l.order l.i l.n l.from l.by
