-- `range_of`: the number says the sheet. Assumes nothing.
use Rattle.std.proofs.Common.{arith}
use Rattle.locate.specs.PlaceLaws.{range_design, range_network, range_neither}
use Rattle.locate.proofs.range_of.Goals as goal

pub returns-in-2-to-5 : goal.returns-in-2-to-5
returns-in-2-to-5 c =
    let a = c.args in
    range_design a.design.now a.network.now a.number a.line c.span_of.result.start c.span_of.result.end (omega arith) (omega arith) c.span_of.ensures

pub returns-in-10-to-11 : goal.returns-in-10-to-11
returns-in-10-to-11 c =
    let a = c.args in
    let p = c.span_of-in-10-to-11 in
    range_network a.design.now a.network.now a.number a.line p.result.start p.result.end (omega arith) (omega arith) p.ensures

pub returns-in_default : goal.returns-in_default
returns-in_default c =
    let a = c.args in
    range_neither a.design.now a.network.now a.number a.line (λ i j. omega arith) (λ i j. omega arith)

pub returns-in_default-2 : goal.returns-in_default-2
returns-in_default-2 c =
    let a = c.args in
    range_neither a.design.now a.network.now a.number a.line (λ i j. omega arith) (λ i j. omega arith)

pub returns-in_default-3 : goal.returns-in_default-3
returns-in_default-3 c =
    let a = c.args in
    range_neither a.design.now a.network.now a.number a.line (λ i j. omega arith) (λ i j. omega arith)
