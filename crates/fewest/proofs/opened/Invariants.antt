-- `opened`: the rows before o are taken over. Assumes nothing.
use Rattle.fewest.specs.Count.{Opened}
use Rattle.fewest.proofs.opened.Given as goal

abbrev pub invariant-loop-o : goal.invariant-loop-o
invariant-loop-o l = Opened l.rows l.o l.r
