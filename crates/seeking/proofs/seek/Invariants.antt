-- What the rounds learn to have no codes has none.
use Rattle.cache.specs.Cache.{Honest}
use Rattle.seeking.proofs.seek.Given as goal

abbrev pub invariant-loop-i : goal.invariant-loop-i
invariant-loop-i l = Honest l.cl l.given l.fn.p.kn l.fn.p.val l.fn.p.vertices l.mem
