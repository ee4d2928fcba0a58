-- `put_network`: the lines of the plan are the network sheet of a design that the sheet holds. Assumes nothing.
use Rattle.std.proofs.Common.{arith}
use Rattle.emit.specs.PutLaws.{put_same}
use Rattle.netlines.specs.Room.{sheet_room}
use Rattle.writer.specs.PlanLaws.{lines_are_sheet}
use Rattle.writer.proofs.put_network.Goals as goal

pub returns : goal.returns
returns c = λ d h proper s.
    let w = put_same {k = sheet_room} c.put_sheet.ensures
    (lines_are_sheet _ c.bound_names-bound.ensures.0 c.free_names-free.ensures.0 (omega arith) (omega arith) d h proper s)
    (omega arith) in
    (omega (arith, w.place), w.bytes)
