use Rattle.cache.specs.Cache.{Honest}
use Rattle.readingsets.proofs.small_questions.Given as goal

abbrev pub invariant-loop-size : goal.invariant-loop-size
invariant-loop-size l = Honest l.cl l.given l.q.kn l.q.val l.q.vertices l.mem
