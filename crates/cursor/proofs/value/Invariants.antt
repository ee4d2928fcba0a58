-- `value`: the digits passed have the value n, and five digits stay small. Assumes nothing.
use Prim.Native.Nat.{◌+◌}
use Rattle.cursor.specs.ReadNumberLaws.{Valued}
use Rattle.cursor.proofs.value.Given as goal

abbrev pub invariant-loop-b : goal.invariant-loop-b
invariant-loop-b l = Valued l.s l.a l.e (l.a + l.b-index) l.n
