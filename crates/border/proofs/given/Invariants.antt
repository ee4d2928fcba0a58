use Rattle.std.proofs.Common.{◌≡◌, length}
use Rattle.limits.specs.Limits.{max_vertices}
use Rattle.border.proofs.given.Given as goal

abbrev pub invariant-loop-x : goal.invariant-loop-x
invariant-loop-x l = (length l.r ≡ max_vertices)
