-- `add`: output after output. Assumes nothing.
use Rattle.panel.specs.AddLaws.{AddedUpTo}
use Rattle.panel.proofs.add.Given as goal

abbrev pub invariant-loop-o : goal.invariant-loop-o
invariant-loop-o l = AddedUpTo l.initial.tables l.rows l.marks l.o l.tables
