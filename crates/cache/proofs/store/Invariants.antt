use Rattle.cache.specs.Cache.{Written}
use Rattle.cache.proofs.store.Given as goal

abbrev pub invariant-loop-o : goal.invariant-loop-o
invariant-loop-o l = Written l.initial.mem l.i l.rows l.o l.mem
