use native.Mathlib.Omega.{arith}
use Rattle.emit.specs.PutLaws.{put_length}
use Rattle.blif.specs.ItemLaws.{inputs_none, inputs_more, inputs_all}
use Rattle.blif.proofs.put_inputs.Goals as goal

pub loop-i-init : goal.loop-i-init
loop-i-init c = inputs_none _ _ _ _

pub put_digit-p-requires : goal.put_digit-p-requires
put_digit-p-requires c = let pre = c.requires in
    omega (arith, pre, c.loop-i.invariant.within, c.loop-i.invariant.so_far.place, c.loop-i.invariant.so_far.short)

pub loop-i-preserved : goal.loop-i-preserved
loop-i-preserved c = inputs_more c.loop-i.invariant c.loop-i-test.true c.has.ensures c.put_digit-p.ensures

pub shape_of-buf : goal.shape_of-buf
shape_of-buf c = put_length c.loop-i.invariant.so_far

pub returns : goal.returns
returns c = let pre = c.requires in
    inputs_all c.loop-i.invariant c.loop-i-test.false pre.1
