-- `first_rows`: the outputs before o have their first sets. Assumes nothing.
use Rattle.std.proofs.Common.{◌≡◌, length}
use Rattle.picking.specs.Best.{FirstRows}
use Rattle.picking.proofs.first_rows.Given as goal

abbrev pub invariant-loop-o : goal.invariant-loop-o
invariant-loop-o l = (length l.tables ≡ 32) × FirstRows l.cl l.tables l.budgets l.v l.u l.o l.r
