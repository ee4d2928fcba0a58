use mathlib.Core.Path.{refl}
use native.Mathlib.Omega.{arith}
use Rattle.emit.specs.PutLaws.{put_length}
use Rattle.emit.specs.UptoLaws.{texts_none, texts_put, texts_all}
use Rattle.netlines.proofs.put_nodes.Goals as goal

pub loop-o-init : goal.loop-o-init
loop-o-init c = texts_none _ _ _ _ _

pub put_node-p-requires : goal.put_node-p-requires
put_node-p-requires c = let pre = c.requires in
    (omega (arith, pre.0, pre.1, c.loop-o.invariant.so_far.place, c.loop-o.invariant.so_far.short), pre.2, pre.3, pre.4)

pub loop-o-preserved : goal.loop-o-preserved
loop-o-preserved c = texts_put c.loop-o.invariant (omega arith) c.put_node-p.ensures

pub shape_of-buf : goal.shape_of-buf
shape_of-buf c = put_length c.loop-o.invariant.so_far

pub returns : goal.returns
returns c = texts_all c.loop-o.invariant (omega arith) (omega (arith, c.requires.1)) refl
