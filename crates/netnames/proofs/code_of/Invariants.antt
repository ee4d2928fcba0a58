-- `code_of`: each turn looks at one digit of the mask, and takes the vertex's own digit in where that is 1. Assumes nothing.
use Rattle.netnames.specs.NumbersLaws.{Coding}
use Rattle.netnames.proofs.code_of.Given as goal

abbrev pub invariant-loop-i : goal.invariant-loop-i
invariant-loop-i l = Coding l.mask l.n l.u l.i l.code
