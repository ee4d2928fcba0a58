-- `after_node`: whether one more output follows decides. Assumes nothing.
use mathlib.Core.Path.{refl}
use Prim.Native.Nat.{◌+◌}
use borrow.Author.Tests.{lt-ltb, le-ltb}
use Rattle.netsheet.proofs.after_node.Goals as goal

pub returns-then-o-outputs : goal.returns-then-o-outputs
returns-then-o-outputs c = let a = c.args in
    rw (lt-ltb (a.o + 1) a.outputs c.if-o-outputs.true) refl

pub returns-else-o-outputs : goal.returns-else-o-outputs
returns-else-o-outputs c = let a = c.args in
    rw (le-ltb (a.o + 1) a.outputs c.if-o-outputs.false) refl
