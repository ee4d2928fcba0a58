-- `names_at`: the items are read one after the other. Assumes nothing.
use Rattle.network.specs.ListedLaws.{Listed}
use Rattle.network.proofs.names_at.Given as goal

abbrev pub invariant-loop-v : goal.invariant-loop-v
invariant-loop-v l = Listed l.s l.ns l.first l.initial.next.at l.next.at l.leads l.v-index
