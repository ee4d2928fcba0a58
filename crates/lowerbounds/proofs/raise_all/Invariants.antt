-- `raise_all`: each turn keeps the table or raises it by the kinds of one output, and either way its entries have reasons.
use Prim.Native.Nat.{◌*◌}
use Rattle.lowerbounds.specs.Reasons.{Based}
use Rattle.lowerbounds.proofs.raise_all.Given as goal

abbrev pub invariant-loop-q : goal.invariant-loop-q
invariant-loop-q l = Based l.cl l.rows l.v l.j (l.j * 32) l.base
