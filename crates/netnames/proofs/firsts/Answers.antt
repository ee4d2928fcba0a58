use Rattle.netnames.specs.FirstLaws.{filling_none, filling_more, filling_all}
use Rattle.netnames.proofs.firsts.Goals as goal

pub loop-x-init : goal.loop-x-init
loop-x-init c = filling_none _ _

pub loop-x-preserved : goal.loop-x-preserved
loop-x-preserved c = filling_more c.loop-x.invariant c.loop-x-test.true c.code_of.ensures.0 c.code_of.ensures.1

pub returns : goal.returns
returns c = filling_all c.loop-x.invariant c.loop-x-test.false
