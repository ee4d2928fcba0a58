-- `names_of`: one name after another. Assumes nothing.
use Rattle.platext.specs.GatheringLaws.{Gathering}
use Rattle.platext.proofs.names_of.Given as goal

abbrev pub invariant-loop-count : goal.invariant-loop-count
invariant-loop-count l = Gathering l.l l.n l.initial.c.at l.c.at l.count l.names
