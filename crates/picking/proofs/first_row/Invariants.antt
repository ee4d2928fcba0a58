-- `first_row`: best is the first of the sets before f that suit. Assumes nothing.
use Rattle.picking.specs.Best.{Best}
use Rattle.picking.proofs.first_row.Given as goal

abbrev pub invariant-loop-f : goal.invariant-loop-f
invariant-loop-f l = Best l.cl l.codes l.v l.o l.u l.budget l.f l.best
