-- What the first o outputs read, and what two of them read.
use Rattle.readers.specs.Masks.{Seen}
use Rattle.readers.proofs.shared.Given as goal

abbrev pub invariant-loop-o : goal.invariant-loop-o
invariant-loop-o l = Seen l.rows l.o l.once l.many
