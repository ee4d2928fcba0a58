use Rattle.cells.specs.SetsLaws.{size_of}
use Rattle.cells.proofs.size.Goals as goal

pub returns : goal.returns
returns c = size_of c.args.x
