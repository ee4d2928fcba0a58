use Rattle.first.specs.UptoLaws.{upto_power}
use Rattle.first.proofs.vertices_upto.Goals as goal

pub returns : goal.returns
returns c = upto_power c.args.x c.single.result c.single.ensures
