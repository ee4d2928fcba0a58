-- `first_of`: the sets of k outputs with a rank above r are served. Assumes nothing.
use Rattle.cache.specs.Cache.{entry_count, entry_size}
use Rattle.unserved.specs.Asking.{FitFrom}
use Rattle.std.proofs.Common.{length, ◌≡◌, ◌+◌, ◌*◌, ◌^◌, ◌<◌}
use Rattle.unserved.proofs.first_of.Given as goal

abbrev pub invariant-loop-r : goal.invariant-loop-r
invariant-loop-r l = (l.r < 2 ^ l.m) × FitFrom l.cl l.budgets l.v l.m l.limit l.k (l.r + 1) × (length l.mem ≡ entry_count * entry_size)
