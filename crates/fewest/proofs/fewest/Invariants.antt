-- `fewest`: no fewer than u cells serve the outputs kept, and what the cache remembers holds. Assumes nothing.
use Rattle.fewest.specs.Count.{NoFewer}
use Rattle.cache.specs.Cache.{Honest}
use Rattle.std.proofs.Common.{length, ◌≡◌}
use Rattle.fewest.proofs.fewest.Given as goal

abbrev pub invariant-loop-u : goal.invariant-loop-u
invariant-loop-u l = (length l.given ≡ 32) × NoFewer l.kept.labels l.given l.asked l.v l.kept.outputs l.u × Honest l.kept.labels l.given 0 0 l.v l.mem
