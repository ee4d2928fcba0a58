use Rattle.std.proofs.Common.{sym, ◌∙◌}
use Rattle.comparing.specs.FillingLaws.{put_none, put_more, put_all}
use Rattle.comparing.proofs.put_vertex.Goals as goal

pub loop-y-init : goal.loop-y-init
loop-y-init c = put_none c.requires.0

pub loop-y-preserved : goal.loop-y-preserved
loop-y-preserved c = put_more c.loop-y.y c.loop-y.invariant (c.requires.2.rows c.loop-y.y c.loop-y-test.true)

pub shape_of-digits : goal.shape_of-digits
shape_of-digits c = c.loop-y.invariant.size ∙ sym c.requires.0

pub returns : goal.returns
returns c = put_all c.loop-y.invariant c.loop-y.auto.y-end c.loop-y-test.false
