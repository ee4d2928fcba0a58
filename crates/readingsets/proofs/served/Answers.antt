use Rattle.std.proofs.Common.{◌^◌, ◌<◌, ◌+◌, arith}
use Rattle.readingsets.specs.ChoiceLaws.{number_room}
use Rattle.readingsets.specs.ServedLaws.{served_here}
use Rattle.readingsets.proofs.served.Goals as goal

pub row_of-row-requires : goal.row_of-row-requires
row_of-row-requires c = let p = c.args.p in
    let q = c.requires in
    (q.4, number_room p.cells p.tables c.loop-r.r c.power-r-end.result q.5 c.power-r-end.ensures.0 c.loop-r-test.true)

pub returns-then-none_left : goal.returns-then-none_left
returns-then-none_left c = let a = c.args in
    let p = a.p in
    let e = c.power-r-end.ensures.0 in
    let h = c.loop-r-test.true in
    let low : c.loop-r.r < 2 ^ (p.cells + p.tables) = omega arith in
    served_here a.cl.now a.given.now p.vertices p.cells p.tables a.n a.want c.loop-r.r c.row_of-row.result c.given_of.result
    low c.row_of-row.ensures c.given_of.ensures.0 (c.suits.ensures.right c.if-suits.true) (c.none_left.ensures.0 c.if-none_left.true)
