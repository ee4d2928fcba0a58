-- `labels`: the labels below i are set, and those from i on are 0. Assumes nothing.
use Rattle.std.proofs.Common.{◌≡◌, ℕ, ◌≤◌, get_or}
use Rattle.limits.specs.Limits.{label_count}
use Rattle.mapper.specs.SearchInput.{label_of}
use Rattle.bits.specs.Filled.{Filled}
use Rattle.mapper.proofs.labels.Given as goal

abbrev pub invariant-loop-i : goal.invariant-loop-i
invariant-loop-i l = Filled label_count (label_of l.ls) l.i l.cl × ((k : ℕ) → l.i ≤ k → get_or l.cl k 0 ≡ 0)
