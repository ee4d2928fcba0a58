-- `bases`: the table of noughts has reasons, and each output's raising keeps them.
use Prim.Native.Nat.{◌*◌}
use Rattle.lowerbounds.specs.Reasons.{Based}
use Rattle.lowerbounds.proofs.bases.Given as goal

abbrev pub invariant-loop-o : goal.invariant-loop-o
invariant-loop-o l = Based l.cl l.rows l.v l.j (l.j * 32) l.r
