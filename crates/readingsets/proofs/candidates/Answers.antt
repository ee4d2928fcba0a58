use Rattle.readingsets.specs.ChoiceLaws.{number_room}
use Rattle.readingsets.proofs.candidates.Goals as goal

pub row_of-requires : goal.row_of-requires
row_of-requires c = let p = c.args.p in
    let q = c.requires in
    (q.4, number_room p.cells p.tables c.loop-r.r c.power-r-end.result q.5 c.power-r-end.ensures.0 c.loop-r-test.true)
