-- The first y sets are narrowed.
use Rattle.holding.specs.Full.{Free}
use Rattle.holding.specs.Narrow.{Narrowed}
use Rattle.holding.proofs.shut.Given as goal

abbrev pub invariant-loop-y : goal.invariant-loop-y
invariant-loop-y l = Narrowed (Free l.cl l.o l.seen l.b) l.initial.dom l.y l.dom
