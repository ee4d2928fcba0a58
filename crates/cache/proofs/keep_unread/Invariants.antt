use Rattle.std.proofs.Common.{◌≡◌, length}
use Rattle.cache.specs.Cache.{Unread}
use Rattle.cache.proofs.keep_unread.Given as goal

abbrev pub invariant-loop-i : goal.invariant-loop-i
invariant-loop-i l = (length l.initial.mem ≡ 18432) × Unread l.initial.mem l.i l.mem
