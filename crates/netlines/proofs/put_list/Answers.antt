-- `put_list`: the items, and a text after them. Assumes nothing.
use Rattle.std.proofs.Common.{refl, arith, length-take-le}
use Rattle.emit.specs.PutLaws.{put_next}
use Rattle.netlines.proofs.put_list.Goals as goal

pub returns : goal.returns
returns c =
    let ns = c.args.ns in
    put_next c.put_names-p.ensures c.put_text.ensures refl (omega (arith, length-take-le ns.count ns.list (omega arith)))
