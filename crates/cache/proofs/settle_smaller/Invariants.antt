use Rattle.cache.specs.Cache.{Honest}
use Rattle.cache.proofs.settle_smaller.Given as goal

abbrev pub invariant-loop-i : goal.invariant-loop-i
invariant-loop-i l = Honest l.cl l.given l.q.kn l.q.val l.q.vertices l.mem
