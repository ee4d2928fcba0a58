use native.Mathlib.Omega.{arith}
use Rattle.emit.specs.PutLaws.{put_length}
use Rattle.emit.specs.UptoLaws.{texts_none, texts_put, texts_all}
use Rattle.blif.specs.ItemLaws.{names_text}
use Rattle.blif.proofs.put_items.Goals as goal

pub loop-v-init : goal.loop-v-init
loop-v-init c = texts_none _ _ _ _ _

pub put_item-p-requires : goal.put_item-p-requires
put_item-p-requires c = let pre = c.requires in
    omega (arith, pre, c.loop-v-test.true, c.loop-v.invariant.so_far.place, c.loop-v.invariant.so_far.short)

pub loop-v-preserved : goal.loop-v-preserved
loop-v-preserved c = texts_put c.loop-v.invariant c.loop-v-test.true c.put_item-p.ensures

pub shape_of-buf : goal.shape_of-buf
shape_of-buf c = put_length c.loop-v.invariant.so_far

pub returns : goal.returns
returns c = let args = c.args in
    texts_all c.loop-v.invariant c.loop-v-test.false (omega arith) (names_text args.ns.now)
