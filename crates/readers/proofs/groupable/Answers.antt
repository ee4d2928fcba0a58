use Rattle.readers.specs.KnownLaws.{groupable_all, groupable_less}
use Rattle.readers.proofs.groupable.Goals as goal

pub returns-then-kn-eq0 : goal.returns-then-kn-eq0
returns-then-kn-eq0 c = let a = c.args in groupable_all a.sh a.kn c.requires c.if-kn-eq0.true

pub returns-else-kn-eq0 : goal.returns-else-kn-eq0
returns-else-kn-eq0 c = let a = c.args in groupable_less a.sh a.kn c.requires
