-- `fill`: each turn stores one row. Assumes nothing.
use Prim.Native.Nat.{ℕ, ◌*◌}
use lib.ListN.{length}
use Rattle.bits.specs.Filled.{Filled}
use Rattle.classes.specs.Seen.{gathered}
use Rattle.classes.proofs.fill.Given as goal

abbrev pub invariant-loop-i : goal.invariant-loop-i
invariant-loop-i l = Filled (length l.initial.out) (λ (k : ℕ). gathered l.digits (k * l.step)) l.i l.out
