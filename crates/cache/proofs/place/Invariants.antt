use Rattle.std.proofs.Common.{◌<◌}
use Rattle.cache.proofs.place.Given as goal

abbrev pub invariant-loop-row : goal.invariant-loop-row
invariant-loop-row l = l.h < 4294967291
