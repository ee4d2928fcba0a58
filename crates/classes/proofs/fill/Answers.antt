use mathlib.Core.Path.{refl}
use Prim.Native.Nat.{◌≤◌}
use native.Mathlib.Omega.{arith}
use Rattle.limits.specs.Limits.{max_free_rows}
use Rattle.bits.specs.FilledLaws.{filled_none, filled_more}
use Rattle.classes.proofs.Rows.{product_small}
use Rattle.classes.proofs.fill.Goals as goal

pub loop-i-init : goal.loop-i-init
loop-i-init c = filled_none _ _ refl

pub overflow_mul-i : goal.overflow_mul-i
overflow_mul-i c = let i = c.loop-i.i in
    let few : i ≤ max_free_rows = omega (arith, c.requires.0, c.loop-i.invariant.long) in
    omega (arith, product_small i c.args.step few c.requires.1)

pub loop-i-preserved : goal.loop-i-preserved
loop-i-preserved c = filled_more c.gather.result (omega (arith, c.loop-i.invariant.long)) c.gather.ensures c.loop-i.invariant

pub returns : goal.returns
returns c = record { each = λ k b. c.loop-i.invariant.done k (omega (arith)) }
