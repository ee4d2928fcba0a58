-- `budgets`: those below o are set. Assumes nothing.
use Rattle.mapper.specs.SearchInput.{BudgetsAre}
use Rattle.mapper.proofs.budgets.Given as goal

abbrev pub invariant-loop-o : goal.invariant-loop-o
invariant-loop-o l = BudgetsAre l.ws l.o l.r
