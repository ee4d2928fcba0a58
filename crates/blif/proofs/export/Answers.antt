-- `export`: Export on what the design sheet's examination answers. Assumes nothing.
use Rattle.sheet.specs.Examine as sheets
use Rattle.checker.specs.CheckLaws.{sheet_right}
use Rattle.blif.specs.AnswerLaws.{answer_of_sheet}
use Rattle.blif.proofs.export.Goals as goal

pub export_of-requires : goal.export_of-requires
export_of-requires c = c.examine.ensures.examination

pub returns : goal.returns
returns c = let args = c.args in
    let s = args.sheet.now in
    answer_of_sheet s args.network.now args.buffer.now _ (c.export_of.ensures (sheets.examine s) c.examine.ensures.examined_is (sheet_right s))
