use Prim.Native.Nat.{◌-◌}
use native.Mathlib.Omega.{arith}
use Rattle.names.proofs.Packs.{packed_none, packed_more, packed_room}
use Rattle.names.proofs.packed.Goals as goal

pub loop-i-init : goal.loop-i-init
loop-i-init c = packed_none c.args.s.now c.args.a c.args.e c.requires.0

pub overflow_mul-v : goal.overflow_mul-v
overflow_mul-v c = omega (arith, packed_room c.loop-i.invariant c.loop-i-test.true c.requires.1)

pub overflow_add-v : goal.overflow_add-v
overflow_add-v c = omega (
  arith,
  packed_room c.loop-i.invariant c.loop-i-test.true c.requires.1,
  c.type_inv.s (c.loop-i.i - 1),
)

pub loop-i-preserved : goal.loop-i-preserved
loop-i-preserved c = rw c.from.ensures (packed_more c.loop-i.invariant c.loop-i-test.true c.requires.2
    (omega (arith, c.type_inv.s (c.loop-i.i - 1))))
