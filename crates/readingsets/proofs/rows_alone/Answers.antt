use Rattle.readingsets.specs.ChoiceLaws.{number_room}
use Rattle.std.proofs.Common.{arith}
use Rattle.readingsets.proofs.rows_alone.Goals as goal

pub row_of-row-requires : goal.row_of-row-requires
row_of-row-requires c = let a = c.args in
    let q = c.requires in
    let h = c.loop-r-test.true in
    (q.4, number_room a.cells a.tables c.loop-r.r c.power-all.result q.5 c.power-all.ensures.0 (omega arith))
