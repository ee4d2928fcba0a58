-- `covered`: one literal after another. Assumes nothing.
use Rattle.cubes.specs.RowsLaws.{Narrowed}
use Rattle.cubes.proofs.covered.Given as goal

abbrev pub invariant-loop-i : goal.invariant-loop-i
invariant-loop-i l = Narrowed l.l l.i l.t
