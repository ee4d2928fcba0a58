use mathlib.Core.Bool.{false}
use Rattle.subproblems.specs.GatheringLaws.{gathered_short, settled_of}
use Rattle.subproblems.proofs.possible.Goals as goal

pub cut-labels-requires : goal.cut-labels-requires
cut-labels-requires c = let p = c.requires in
    let s = c.gather-g.ensures in
    (p.0, p.1, s.from_low, s.few, p.2)

pub possible-requires : goal.possible-requires
possible-requires c = let p = c.requires in
    let a = c.args in
    let o = c.gather-g.result in
    (c.cut-labels.ensures.labels, p.2, c.gather-g.ensures.few, gathered_short a.asked a.rows o.count o.from o.cells o.tables c.gather-g.ensures)

pub returns : goal.returns
returns c = λ e kn val.
    let a = c.args in
    let o = c.gather-g.result in
    settled_of a.asked a.rows o.count o.from o.cells o.tables c.gather-g.ensures a.cl.now a.given.now a.v c.cut-labels.result c.cut-labels.ensures
    kn val false a.rows (c.possible.ensures e kn val)
