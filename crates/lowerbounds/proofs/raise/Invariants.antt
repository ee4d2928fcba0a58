-- `raise`: each turn keeps an entry of o, or sets it to what its kinds say.
use Rattle.lowerbounds.specs.Reasons.{Raised}
use Rattle.lowerbounds.proofs.raise.Given as goal

abbrev pub invariant-loop-l : goal.invariant-loop-l
invariant-loop-l l = Raised l.o l.d l.l l.kinds l.initial.base l.base
