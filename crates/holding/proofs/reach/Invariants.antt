-- The first y vertices are looked at.
use Rattle.holding.specs.Reach.{Reached}
use Rattle.holding.proofs.reach.Given as goal

abbrev pub invariant-loop-y : goal.invariant-loop-y
invariant-loop-y l = Reached l.cl l.base l.n.owns l.n.wants l.codes l.dom l.own l.t.number l.p l.y l.r
