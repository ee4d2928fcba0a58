use Rattle.subproblems.specs.GatheringLaws.{gathered_short, settled_of}
use Rattle.problem.specs.Answer.{is_found, found_codes}
use Rattle.coding.specs.LimitLaws.{sure_then}
use Rattle.subproblems.proofs.ask.Goals as goal

pub cut-labels-requires : goal.cut-labels-requires
cut-labels-requires c = let p = c.requires in
    let s = c.gather-g.ensures in
    (p.0, p.1, s.from_low, s.few, p.2)

pub codes_for-requires : goal.codes_for-requires
codes_for-requires c = let p = c.requires in
    let a = c.args in
    let o = c.gather-g.result in
    (c.cut-labels.ensures.labels, p.2, c.gather-g.ensures.few, gathered_short a.asked a.rows o.count o.from o.cells o.tables c.gather-g.ensures)

pub returns : goal.returns
returns c = let a = c.args in
    let o = c.gather-g.result in
    let s = c.codes_for.result.answer in
    let settled = settled_of a.asked a.rows o.count o.from o.cells o.tables c.gather-g.ensures a.cl.now a.given.now a.v c.cut-labels.result c.cut-labels.ensures a.kn a.val in
    sure_then a.limit _ _ _ (settled (is_found s) (found_codes s)) c.codes_for.ensures
