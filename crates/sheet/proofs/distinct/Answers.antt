use Rattle.sheet.specs.DistinctLaws.{stands_twice, passed_more, passed_all}
use Rattle.sheet.proofs.distinct.Goals as goal

pub returns-then-is_some : goal.returns-then-is_some
returns-then-is_some c = stands_twice c.loop-i.invariant c.loop-i-test.true c.find.result c.find.ensures c.if-is_some.ensures

pub loop-i-preserved : goal.loop-i-preserved
loop-i-preserved c = passed_more c.loop-i.invariant c.loop-i-test.true c.find.result c.find.ensures c.if-is_some.ensures

pub returns : goal.returns
returns c = passed_all c.loop-i.invariant c.loop-i-test.false
