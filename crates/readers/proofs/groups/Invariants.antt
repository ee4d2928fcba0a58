-- The groups so far are groups, and done has their cells.
use Rattle.readers.specs.Groups.{Grouping}
use Rattle.readers.proofs.groups.Given as goal

abbrev pub invariant-loop-i : goal.invariant-loop-i
invariant-loop-i l = Grouping l.rows l.gs l.sh l.j l.done
