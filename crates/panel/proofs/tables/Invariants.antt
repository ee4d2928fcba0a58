-- `tables`: the rows of one cube after another. Assumes nothing.
use Rattle.panel.specs.TableLaws.{TablesFrom}
use Rattle.panel.proofs.tables.Given as goal

abbrev pub invariant-loop-cube : goal.invariant-loop-cube
invariant-loop-cube l = TablesFrom l.s l.t.inputs.count l.t.outputs.count l.initial.at l.t.cubes l.tables l.at l._cube
