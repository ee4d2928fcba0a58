-- `put_listed`: the names that the list holds. Assumes nothing.
use Rattle.std.proofs.Common.{refl, arith, length-take-le}
use Rattle.emit.specs.PutLaws.{put_same}
use Rattle.blif.proofs.put_listed.Goals as goal

pub returns : goal.returns
returns c =
    let ns = c.args.ns in
    put_same c.put_items.ensures refl (omega (arith, length-take-le ns.count ns.list (omega arith)))
