-- `packed`: each turn puts the byte before under those passed. Assumes nothing.
use Rattle.names.proofs.Packs.{Packed}
use Rattle.names.proofs.packed.Given as goal

abbrev pub invariant-loop-i : goal.invariant-loop-i
invariant-loop-i l = Packed l.s l.a l.e l.v l.i
