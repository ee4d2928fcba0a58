-- `unserved`: every set of fewer than k outputs is served. Assumes nothing.
use Rattle.cache.specs.Cache.{entry_count, entry_size}
use Rattle.unserved.specs.Asking.{FitBelow}
use Rattle.std.proofs.Common.{length, ◌≡◌, ◌*◌}
use Rattle.unserved.proofs.unserved.Given as goal

abbrev pub invariant-loop-k : goal.invariant-loop-k
invariant-loop-k l = FitBelow l.cl l.budgets l.v l.m l.limit l.k × (length l.mem ≡ entry_count * entry_size)
