use Rattle.std.proofs.Common.{arith}
use Rattle.first.specs.LowestLaws.{lowest_same, lowest_next, stands_front, remembers_none}
use Rattle.first.proofs.least_table.Goals as goal

pub loop-x-init : goal.loop-x-init
loop-x-init c = let p = c.requires in
    let a = c.args in
    let q = a.p in (
      lowest_same a.cl.now q.budgets q.vertices q.outputs q.cells a.i 0 a.codes c.sorted-least.result p.4 (omega arith) p.5 c.sorted-least.ensures.0
          (c.sorted-least.ensures.1 a.cl.now q.budgets q.outputs p.5.witness),
      stands_front a.i q.vertices c.sorted-least.result c.front-given.result p.1 c.front-given.ensures,
      remembers_none a.cl.now c.front-given.result q.vertices _ (c.clear.ensures a.cl.now c.front-given.result 0 0 q.vertices),
    )

pub returns : goal.returns
returns c = let p = c.requires in
    let a = c.args in
    let q = a.p in
    let l = c.loop-x.invariant in
    (lowest_next a.cl.now q.budgets q.vertices q.outputs q.cells a.i c.loop-x.x c.loop-x.least p.4 (omega arith) l.0, l.2.honest.long)
