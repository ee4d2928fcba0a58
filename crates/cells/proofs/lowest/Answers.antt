use Rattle.cells.specs.SetsLaws.{lowest_on}
use Rattle.cells.proofs.lowest.Goals as goal

pub returns : goal.returns
returns c = lowest_on 64 c.args.s c.requires c.ranges.s.fits
