-- `put_column`: at each turn the running row number is the row of the vertex and of the free row whose digit is due.
-- Assumes nothing.
use Rattle.netlines.specs.Running.{VertexRow}
use Rattle.netlines.specs.RunningLaws.{Running}
use Rattle.netlines.proofs.put_column.Given as goal

abbrev pub invariant-loop : goal.invariant-loop
invariant-loop l = (v : VertexRow l.start l.bound l.free) → Running v l.t l.n l.initial.buf l.buf l.at l.p l.row l.counter
