-- `of_rank`: the digits passed are turned round. Assumes nothing.
use mathlib.Core.Path.{◌≡◌}
use Rattle.subsets.specs.Rank.{rank}
use Rattle.subsets.proofs.of_rank.Given as goal

abbrev pub invariant-loop-i : goal.invariant-loop-i
invariant-loop-i l = l.s ≡ rank l.i l.r
