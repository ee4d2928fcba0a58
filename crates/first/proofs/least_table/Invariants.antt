-- `least_table`: the tables before i and the first x digits of table i are the least. Assumes nothing.
use Rattle.first.specs.Drawn.{Lowest, Stands, Remembers}
use Rattle.first.proofs.least_table.Given as goal

abbrev pub invariant-loop-x : goal.invariant-loop-x
invariant-loop-x l =
    Lowest l.cl l.p.budgets l.p.vertices l.p.outputs l.p.cells l.i l.x l.least
    × Stands l.least l.i l.p.vertices l.given
    × Remembers l.cl l.given l.p.vertices l.mem
