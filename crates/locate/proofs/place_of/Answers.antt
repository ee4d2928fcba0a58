-- `place_of`: the place of the line, with the length of the line itself. Assumes nothing.
use Rattle.locate.specs.Located.{located}
use Rattle.locate.specs.PlaceLaws.{line_place}
use Rattle.locate.proofs.place_of.Goals as goal

pub returns : goal.returns
returns c =
    let a = c.args in
    line_place (located a.design.now a.network.now a.number a.line) a.design a.network _ _ _ _ c.line_at.ensures c.range_of-sheet.ensures
