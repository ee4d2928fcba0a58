use Rattle.emit.specs.ListLaws.{listing_none, listing_more, listing_all}
use Rattle.emit.specs.PutLaws.{put_length}
use Rattle.emit.proofs.put_names.Goals as goal

pub loop-i-init : goal.loop-i-init
loop-i-init c = listing_none _ _ _

pub loop-i-preserved : goal.loop-i-preserved
loop-i-preserved c = listing_more c.loop-i.invariant c.loop-i-test.true c.put_led-p.ensures

pub shape_of-buf : goal.shape_of-buf
shape_of-buf c = put_length c.loop-i.invariant.so_far

pub returns : goal.returns
returns c = listing_all c.loop-i.invariant c.loop-i-test.false
