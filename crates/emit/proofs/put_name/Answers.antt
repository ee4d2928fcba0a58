use native.Mathlib.Omega.{arith}
use Rattle.emit.specs.NameLaws.{putting_none, putting_over, putting_more, putting_room}
use Rattle.emit.specs.PutLaws.{put_length}
use Rattle.emit.proofs.put_name.Goals as goal

pub loop-rest-init : goal.loop-rest-init
loop-rest-init c = putting_none _ _ _ (omega arith)

pub put_byte-p-requires : goal.put_byte-p-requires
put_byte-p-requires c = omega (arith, putting_room c.loop-rest.invariant c.loop-rest-test.true)

pub loop-rest-preserved : goal.loop-rest-preserved
loop-rest-preserved c = putting_more c.loop-rest.invariant c.loop-rest-test.true c.put_byte-p.ensures

pub shape_of-buf : goal.shape_of-buf
shape_of-buf c = put_length (putting_over c.loop-rest.invariant c.loop-rest-test.false)

pub returns : goal.returns
returns c = putting_over c.loop-rest.invariant c.loop-rest-test.false
