use Rattle.holding.specs.BlocksLaws.{minus_of}
use Rattle.holding.proofs.minus.Goals as goal

pub returns : goal.returns
returns c = minus_of c.args.d c.args.b c.ranges.b.fits
