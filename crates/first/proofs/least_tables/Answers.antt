use Rattle.first.specs.LowestLaws.{lowest_start}
use Rattle.first.proofs.least_tables.Goals as goal

pub loop-i-init : goal.loop-i-init
loop-i-init c = let p = c.requires in
    let a = c.args in
    let q = a.p in
    (lowest_start a.cl.now q.budgets q.vertices q.outputs q.cells a.codes p.4, p.5)
