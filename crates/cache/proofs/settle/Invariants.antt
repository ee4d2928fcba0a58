use Rattle.cache.specs.Cache.{Honest}
use Rattle.cache.proofs.settle.Given as goal

abbrev pub invariant-loop-a : goal.invariant-loop-a
invariant-loop-a l = Honest l.cl l.given l.q.kn l.q.val l.q.vertices l.mem
