use Rattle.std.proofs.Common.{◌≡◌, length}
use Rattle.cache.specs.Cache.{Honest}
use Rattle.border.specs.Line.{line_length, ZeroFirst}
use Rattle.border.proofs.main.Given as goal

abbrev pub invariant-loop : goal.invariant-loop
invariant-loop l = (length l.line ≡ line_length) × ZeroFirst l.past.kn l.past.val × Honest l.past.labels l.past.tables l.past.kn l.past.val l.past.vertices l.mem
