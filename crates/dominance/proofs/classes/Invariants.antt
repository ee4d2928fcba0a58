-- `classes`: no label is 32 or more. Assumes nothing.
use Rattle.std.proofs.Common.{◌≡◌, ◌≤◌, ℕ, false}
use Rattle.bits.specs.Digit.{on}
use Rattle.dominance.proofs.classes.Given as goal

abbrev pub invariant-loop-x : goal.invariant-loop-x
invariant-loop-x l = (k : ℕ) → 32 ≤ k → on l.seen k ≡ false
