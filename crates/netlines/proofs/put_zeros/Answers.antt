use mathlib.Core.Path.{refl}
use native.Mathlib.Omega.{arith}
use Rattle.emit.specs.PutLaws.{put_length}
use Rattle.netlines.specs.DigitLaws.{digits_none, digits_put, digits_all}
use Rattle.netlines.proofs.put_zeros.Goals as goal

pub loop-init : goal.loop-init
loop-init c = digits_none _ _ _ _

pub put_digit-p-requires : goal.put_digit-p-requires
put_digit-p-requires c = let so_far = c.loop.invariant.so_far in
    omega (arith, c.requires, so_far.place, so_far.short)

pub loop-preserved : goal.loop-preserved
loop-preserved c = digits_put c.loop.invariant (omega arith) c.put_digit-p.ensures refl

pub shape_of-buf : goal.shape_of-buf
shape_of-buf c = put_length c.loop.invariant.so_far

pub returns : goal.returns
returns c = digits_all c.loop.invariant (omega arith)
