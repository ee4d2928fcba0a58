use Rattle.readers.specs.KnownLaws.{public_none, public_more, common_more}
use Rattle.readers.proofs.searched.Goals as goal

pub returns-then-kn-eq0 : goal.returns-then-kn-eq0
returns-then-kn-eq0 c = let a = c.args in (c.shared-sh.ensures, public_none a.kn c.shared-sh.result c.if-kn-eq0.true)

pub returns-else-kn-eq0 : goal.returns-else-kn-eq0
returns-else-kn-eq0 c = let a = c.args in
    (common_more a.rows a.j c.shared-sh.result c.shared-sh.ensures, public_more a.kn c.shared-sh.result)
