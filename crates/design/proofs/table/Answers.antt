-- `table`: Table on what the sheet's examination answers. Assumes nothing.
use Rattle.sheet.specs.Examine as spec
use Rattle.design.specs.TableLaws.{table_of_sheet}
use Rattle.design.proofs.table.Goals as goal

pub table_of-requires : goal.table_of-requires
table_of-requires c = c.examine.ensures.examination

pub returns : goal.returns
returns c = table_of_sheet c.args.s.now c.args.output c.args.buffer.now _
    (c.table_of.ensures (spec.examine c.args.s.now) c.examine.ensures.examined_is)
