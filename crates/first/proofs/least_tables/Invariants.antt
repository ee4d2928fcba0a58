-- `least_tables`: the tables before i are the least. Assumes nothing.
use Rattle.first.specs.Drawn.{Lowest}
use Rattle.std.proofs.Common.{length, ◌≡◌}
use Rattle.first.proofs.least_tables.Given as goal

abbrev pub invariant-loop-i : goal.invariant-loop-i
invariant-loop-i l = Lowest l.cl l.p.budgets l.p.vertices l.p.outputs l.p.cells l.i 0 l.least × (length l.mem ≡ 18432)
