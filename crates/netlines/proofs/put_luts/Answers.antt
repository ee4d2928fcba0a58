use mathlib.Core.Path.{refl}
use native.Mathlib.Omega.{arith}
use Rattle.emit.specs.PutLaws.{put_length}
use Rattle.emit.specs.UptoLaws.{texts_none, texts_put, texts_all}
use Rattle.netlines.proofs.put_luts.Goals as goal

pub loop-i-init : goal.loop-i-init
loop-i-init c = texts_none _ _ _ _ _

pub put_lut-p-requires : goal.put_lut-p-requires
put_lut-p-requires c = omega (arith, c.requires, c.loop-i.invariant.so_far.place, c.loop-i.invariant.so_far.short)

pub loop-i-preserved : goal.loop-i-preserved
loop-i-preserved c = texts_put c.loop-i.invariant (omega arith) c.put_lut-p.ensures

pub shape_of-buf : goal.shape_of-buf
shape_of-buf c = put_length c.loop-i.invariant.so_far

pub returns : goal.returns
returns c = texts_all c.loop-i.invariant (omega arith) (omega (arith, c.requires)) refl
