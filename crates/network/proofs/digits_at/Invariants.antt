-- `digits_at`: the digits are read one after the other. Assumes nothing.
use Rattle.network.specs.TablesLaws.{Skipping}
use Rattle.network.proofs.digits_at.Given as goal

abbrev pub invariant-loop : goal.invariant-loop
invariant-loop l = Skipping l.s l.n l.initial.next.at l.next l.counter
