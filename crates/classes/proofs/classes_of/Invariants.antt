-- `classes_of`: each turn adds one output; then the keys give the global classes. Assumes nothing.
use Rattle.classes.proofs.Outputs.{Outlined}
use Rattle.classes.proofs.classes_of.Given as goal

abbrev pub invariant-loop-o : goal.invariant-loop-o
invariant-loop-o l = Outlined l.k l.shape l.locals l.widths l.keys l.o
