-- `line_at`: the place of the line lies in its sheet, and the part there is the line. Assumes nothing.
use Rattle.std.proofs.Common.{ap}
use Rattle.locate.specs.declared.Sheet.{Sheet}
use Rattle.locate.specs.Located.{sheet_of}
use Rattle.locate.specs.Places.{is_network}
use Rattle.locate.specs.PlaceLaws.{range_within, line_is}
use Rattle.locate.proofs.line_at.Goals as goal

pub slice_bounds-result-end : goal.slice_bounds-result-end
slice_bounds-result-end c =
    let a = c.args in
    range_within a.design.now a.network.now a.number a.line _ _ _ c.range_of-sheet.ensures
    a.design.now (ap (λ (s : Sheet). sheet_of (is_network s) a.design.now a.network.now) c.in-Design.is)

pub slice_bounds-result-end-in-Network : goal.slice_bounds-result-end-in-Network
slice_bounds-result-end-in-Network c =
    let a = c.args in
    range_within a.design.now a.network.now a.number a.line _ _ _ c.range_of-sheet.ensures
    a.network.now (ap (λ (s : Sheet). sheet_of (is_network s) a.design.now a.network.now) c.in-Network.is)

pub returns-in-Design : goal.returns-in-Design
returns-in-Design c =
    let a = c.args in
    line_is a.design a.network a.design a.number a.line _ _ _
    c.range_of-sheet.ensures (ap (λ (s : Sheet). sheet_of (is_network s) a.design a.network) c.in-Design.is)

pub returns-in-Network : goal.returns-in-Network
returns-in-Network c =
    let a = c.args in
    line_is a.design a.network a.network a.number a.line _ _ _
    c.range_of-sheet.ensures (ap (λ (s : Sheet). sheet_of (is_network s) a.design a.network) c.in-Network.is)
