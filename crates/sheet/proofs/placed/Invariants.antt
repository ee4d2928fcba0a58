-- `placed`: each turn puts the place of one name into the list. Assumes nothing.
use Rattle.sheet.specs.PlaceLaws.{Placed}
use Rattle.sheet.proofs.placed.Given as goal

abbrev pub invariant-loop-i : goal.invariant-loop-i
invariant-loop-i l = Placed l.ns l.inputs l.list l.i
