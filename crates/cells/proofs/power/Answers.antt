use Rattle.cells.specs.SetsLaws.{power_is}
use Rattle.cells.proofs.power.Goals as goal

pub returns : goal.returns
returns c = power_is c.args.k c.requires
