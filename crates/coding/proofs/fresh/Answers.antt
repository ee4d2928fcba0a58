use Rattle.std.proofs.Common.{refl}
use Rattle.problem.specs.Problem.{item}
use Rattle.coding.specs.ValuesLaws.{fresh-some, fresh_none}
use Rattle.coding.proofs.fresh.Goals as goal

pub returns-then-rest-eq0 : goal.returns-then-rest-eq0
returns-then-rest-eq0 c = λ gs b. fresh_none (item gs c.args.k) c.args.a _ _ c.ranges.a.fits refl c.if-rest-eq0.true

pub returns : goal.returns
returns c = let a = c.args in
    λ gs b. fresh-some (item gs a.k) a.a _ c.lowest.result _ c.ranges.a.fits refl c.lowest.ensures.0 c.lowest.ensures.1
    (b.each a.k c.lowest.result c.requires.1 c.lowest.ensures.0)
