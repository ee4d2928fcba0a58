-- `reads_at`: each number is looked for in turn. Assumes nothing.
use Rattle.network.specs.GatherLaws.{Gathered}
use Rattle.network.proofs.reads_at.Given as goal

abbrev pub invariant-loop-i : goal.invariant-loop-i
invariant-loop-i l = Gathered l.s l.u l.initial.next.at l.next.at l.mask l.count l.i
