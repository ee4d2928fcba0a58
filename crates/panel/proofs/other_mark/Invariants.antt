-- `other_mark`: the marks of one cube after another. Assumes nothing.
use Rattle.panel.specs.MarkLaws.{MarksFrom}
use Rattle.panel.proofs.other_mark.Given as goal

abbrev pub invariant-loop-k : goal.invariant-loop-k
invariant-loop-k l = MarksFrom l.s l.i l.o l.first l.cubes l.at l.k
