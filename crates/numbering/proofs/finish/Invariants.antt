-- The first o outputs have their private cells written.
use Rattle.numbering.specs.Number.{Finished}
use Rattle.numbering.proofs.finish.Given as goal

abbrev pub invariant-loop-o : goal.invariant-loop-o
invariant-loop-o l = Finished l.cl l.p.ms l.p.ps l.p.vertices l.o l.codes l.r
