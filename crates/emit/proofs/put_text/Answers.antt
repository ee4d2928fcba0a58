use native.Mathlib.Omega.{arith}
use Rattle.emit.specs.PutLaws.{put_none, put_next, put_same, put_length, taken_more, taken_all}
use Rattle.emit.proofs.put_text.Goals as goal

pub loop-b-init : goal.loop-b-init
loop-b-init c = put_none _ _

pub loop-b-preserved : goal.loop-b-preserved
loop-b-preserved c = put_next c.loop-b.invariant c.put_byte-p.ensures (taken_more _ _ (omega arith)) (omega arith)

pub shape_of-buf : goal.shape_of-buf
shape_of-buf c = put_length c.loop-b.invariant

pub returns : goal.returns
returns c = put_same c.loop-b.invariant (taken_all _ _ (omega arith)) (omega arith)
