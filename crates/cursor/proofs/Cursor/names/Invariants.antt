-- `Cursor::names`: the loop keeps the names passed; its laws are those of GatheredLaws. Assumes nothing.
use Prim.Native.Nat.{◌-◌}
use lib.ListN.{length}
use Rattle.cursor.specs.GatheredLaws.{Gathered}
use Rattle.cursor.proofs.Cursor.names.Given as goal

abbrev pub invariant-loop-v : goal.invariant-loop-v
invariant-loop-v l = Gathered l.s l.fn.self.at l.c.at l.count l.names

abbrev pub decreases-loop-v : goal.decreases-loop-v
decreases-loop-v l = length l.s - l.c.at
