use Rattle.cursor.specs.GatheredLaws.{gathered_more}
use Rattle.cursor.proofs.Cursor.names.Goals as goal

pub loop-v-preserved : goal.loop-v-preserved
loop-v-preserved c = gathered_more _ _ _ _ c.in-Name.v c.in-Name.next _ _ c.loop-v.invariant (rw c.in-Name.is at c.in_ok-v.ensures) c.keep.ensures
