use Rattle.cubes.specs.RowsLaws.{narrowed_more, narrowed_all}
use Rattle.cubes.proofs.covered.Goals as goal

pub loop-i-preserved : goal.loop-i-preserved
loop-i-preserved c = narrowed_more _ _ _ _ c.loop-i.invariant c.loop-i-test.true c.narrowed-next.ensures

pub returns : goal.returns
returns c = narrowed_all _ _ _ c.loop-i.invariant c.loop-i-test.false
