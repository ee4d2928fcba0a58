-- Of the first o outputs no more than o are counted.
use Rattle.std.proofs.Common.{◌≤◌}
use Rattle.coding.proofs.unmet.Given as goal

abbrev pub invariant-loop-o : goal.invariant-loop-o
invariant-loop-o l = l.n ≤ l.o
