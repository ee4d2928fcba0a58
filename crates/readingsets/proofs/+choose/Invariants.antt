-- Each call of `choose` within gives one output more its row, so the number of outputs without rows falls. In the loop no core has
-- a row of output n that was tried before place i, or that is unsure, and the memory stays honest.
use Rattle.std.proofs.Common.{◌-◌, not, nat_eq}
use Rattle.bits.specs.Digit.{on}
use Rattle.bits.specs.Count.{count}
use Rattle.coding.specs.Limit.{Sure}
use Rattle.cache.specs.Cache.{Honest}
use Rattle.readingsets.specs.Choice.{Tried}
use Rattle.readingsets.proofs.+choose.Given as goal

abbrev pub decreases-choose : goal.decreases-choose
decreases-choose l = 8 - count (on l.done) 8

abbrev pub invariant-loop-i : goal.invariant-loop-i
invariant-loop-i l = record {
  tried : Sure l.p.last l.unsure (Tried l.cl l.given l.p.budgets l.p.kn l.p.val l.p.vertices l.p.outputs l.p.cells l.p.tables l.done l.rows l.same l.n (not (nat_eq l.p.kn 0)) l.i);
  honest : Honest l.cl l.given l.p.kn l.p.val l.p.vertices l.mem;
}
