use Rattle.cache.specs.Cache.{Joined}
use Rattle.cache.proofs.reads_cell_0.Given as goal

abbrev pub invariant-loop-o : goal.invariant-loop-o
invariant-loop-o l = Joined l.mem l.i l.o l.all
