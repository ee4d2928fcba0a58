-- `sooner`: the two sets agree in the cells before i. Assumes nothing.
use Rattle.std.proofs.Common.{◌≡◌, ℕ, ◌<◌}
use Rattle.bits.specs.Digit.{on}
use Rattle.picking.proofs.sooner.Given as goal

abbrev pub invariant-loop-i : goal.invariant-loop-i
invariant-loop-i l = ((j : ℕ) → j < l.i → on l.f j ≡ on l.g j)
