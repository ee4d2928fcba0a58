use Rattle.std.proofs.Common.{◌≤◌}
use Rattle.limits.specs.Limits.{max_cells}
use Rattle.cache.specs.Cache.{Honest}
use Rattle.seeking.specs.Seeking.{Begins}
use Rattle.border.proofs.solve.Given as goal

abbrev pub invariant-loop-u : goal.invariant-loop-u
invariant-loop-u l = (l.most ≤ max_cells) × Begins l.asks.kn l.asks.val l.u × Honest l.labels l.tables l.asks.kn l.asks.val l.asks.vertices l.mem
