-- `ask_outputs`: output after output. Assumes nothing.
use Rattle.panel.specs.OutputsLaws.{OutputsPassed}
use Rattle.panel.proofs.ask_outputs.Given as goal

abbrev pub invariant-loop-o : goal.invariant-loop-o
invariant-loop-o l = OutputsPassed l.initial.sheet l.outputs.count l.outputs.names l.tables l.sheet l.o
