-- `members`: the members passed are listed. Assumes nothing.
use Prim.Native.Nat.{◌≤◌}
use Rattle.subsets.specs.Listed.{Lists}
use Rattle.subsets.proofs.members.Given as goal

abbrev pub invariant-loop-o : goal.invariant-loop-o
invariant-loop-o l = (l.n ≤ l.o) × Lists l.o l.set l.n l.from
