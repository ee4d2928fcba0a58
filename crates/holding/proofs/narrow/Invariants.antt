-- The first y sets are narrowed.
use Rattle.holding.specs.Narrow.{Narrowed, Stays}
use Rattle.holding.proofs.narrow.Given as goal

abbrev pub invariant-loop-y : goal.invariant-loop-y
invariant-loop-y l = Narrowed (Stays l.cl l.base l.t.number l.tight l.own l.meet l.n.owns l.n.wants) l.initial.dom l.y l.dom
