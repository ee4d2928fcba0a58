-- `width`: the least power of 2 that is at least the count, and its exponent. Assumes nothing.
use Rattle.classes.proofs.Powers.{width_by_power}
use Rattle.classes.proofs.width.Goals as goal

pub returns : goal.returns
returns c =
    let p = c.next_power_of_two.ensures in
    let w = c.ilog2.ensures in
    width_by_power c.args.count c.next_power_of_two.result c.ilog2.result p.power p.lower_bound p.upper_bound w.power_le w.next_power_gt c.requires
