-- `compare`: the outer loop's outputs agree on every row, and the inner loop's rows agree in this output. Assumes nothing.
use Rattle.comparing.specs.Drawing.{places_of}
use Rattle.comparing.specs.CompareLaws.{Agreed, AgreedRows}
use Rattle.comparing.proofs.compare.Given as goal

abbrev pub invariant-loop-r : goal.invariant-loop-r
invariant-loop-r l = AgreedRows l.t l.k (places_of l.n) l.shape l.o l.r

abbrev pub invariant-loop-o : goal.invariant-loop-o
invariant-loop-o l = Agreed l.t l.k (places_of l.n) l.shape l.o
