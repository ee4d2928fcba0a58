-- `cellmapper_line`: where the line of a refusal stands, reported. Assumes nothing.
use Rattle.locate.specs.Located.{located}
use Rattle.locate.specs.Places.{is_network}
use Rattle.reports.specs.LineReportLaws.{line_reported}
use Rattle.cellmapper.proofs.cellmapper_line.Goals as goal

pub returns : goal.returns
returns c = let a = c.args in
    line_reported (located a.sheet.now a.network.now a.number a.line) (is_network c.place_of-p.result.sheet) c.number_of.result
    c.place_of-p.result.start c.place_of-p.result.length c.place_of-p.ensures c.number_of.ensures
