use mathlib.Core.Path.{ap, ◌∙◌}
use Prim.Native.Nat.{ℕ}
use native.Mathlib.Omega.{arith}
use Rattle.emit.specs.PutLaws.{put_length}
use Rattle.bits.specs.Digit.{on}
use Rattle.netlines.specs.DigitLaws.{digits_none, digits_put, digits_all}
use Rattle.netlines.proofs.put_table.Goals as goal

pub loop-x-init : goal.loop-x-init
loop-x-init c = digits_none _ _ _ _

pub put_digit-p-requires : goal.put_digit-p-requires
put_digit-p-requires c = let pre = c.requires in
    omega (arith, pre, c.loop-x.invariant.so_far.place, c.loop-x.invariant.so_far.short)

pub loop-x-preserved : goal.loop-x-preserved
loop-x-preserved c = let args = c.args in
    digits_put c.loop-x.invariant (omega arith) c.put_digit-p.ensures (c.has.ensures ∙ ap (λ (k : ℕ). on k args.i) c.from.ensures)

pub shape_of-buf : goal.shape_of-buf
shape_of-buf c = put_length c.loop-x.invariant.so_far

pub returns : goal.returns
returns c = digits_all c.loop-x.invariant (omega arith)
