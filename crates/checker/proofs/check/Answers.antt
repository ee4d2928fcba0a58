-- `check`: Check on what the design sheet's examination answers. Assumes nothing.
use Rattle.sheet.specs.Examine as sheets
use Rattle.checker.specs.Answer.{checked_of}
use Rattle.checker.specs.CheckLaws.{sheet_right, answer_of_sheet}
use Rattle.checker.proofs.check.Goals as goal

pub returns : goal.returns
returns c = let a = c.args in
    answer_of_sheet a.sheet.now a.network.now (checked_of c.check_of.result)
    (c.check_of.ensures (sheets.examine a.sheet.now) c.examine.ensures.examined_is (sheet_right a.sheet.now))
