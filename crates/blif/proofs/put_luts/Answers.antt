use mathlib.Core.Path.{refl}
use native.Mathlib.Omega.{arith}
use Rattle.emit.specs.UptoLaws.{texts_none, texts_put, texts_all}
use Rattle.emit.specs.PutLaws.{put_length}
use Rattle.blif.proofs.put_luts.Goals as goal

pub loop-i-init : goal.loop-i-init
loop-i-init c = texts_none _ _ _ _ _

pub offset_bounds-n-i : goal.offset_bounds-n-i
offset_bounds-n-i c = let pre = c.requires in
    omega (arith, pre.2.few, c.loop-i-test.true)

pub bounds-n-i : goal.bounds-n-i
bounds-n-i c = let pre = c.requires in
    omega (arith, pre.2.few, c.loop-i-test.true)

pub put_lut-p-requires : goal.put_lut-p-requires
put_lut-p-requires c = let pre = c.requires in
    let few = pre.2.few in
    let ready = pre.2.stand _ c.loop-i-test.true in
    (omega (arith, few, pre.0, c.loop-i-test.true, c.loop-i.invariant.so_far.place, c.loop-i.invariant.so_far.short), pre.1, omega (arith, few, c.loop-i-test.true), ready)

pub loop-i-preserved : goal.loop-i-preserved
loop-i-preserved c = texts_put c.loop-i.invariant c.loop-i-test.true c.put_lut-p.ensures

pub shape_of-buf : goal.shape_of-buf
shape_of-buf c = put_length c.loop-i.invariant.so_far

pub returns : goal.returns
returns c = let pre = c.requires in
    texts_all c.loop-i.invariant c.loop-i-test.false (omega (arith, pre.2.few)) refl
