use Rattle.std.proofs.Common.{◌≤◌}
use Rattle.readingsets.proofs.candidates.Given as goal

abbrev pub invariant-loop-r : goal.invariant-loop-r
invariant-loop-r l = l.n ≤ l.r
