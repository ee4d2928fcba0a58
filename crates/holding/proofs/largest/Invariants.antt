-- The place is one of the places.
use Prim.Native.Nat.{◌<◌}
use Rattle.holding.proofs.largest.Given as goal

abbrev pub invariant-loop-i : goal.invariant-loop-i
invariant-loop-i l = l.m < 32
