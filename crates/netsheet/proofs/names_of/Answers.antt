-- `names_of`: the names at the places of the bound inputs, and the others. Assumes nothing.
use Rattle.netsheet.specs.NamedLaws.{names_gathered}
use Rattle.netsheet.proofs.names_of.Goals as goal

pub returns : goal.returns
returns c = names_gathered c.args.k c.requires c.bound_names-bs.result c.free_names-fs.result c.bound_names-bs.ensures.0 c.bound_names-bs.ensures.1 c.free_names-fs.ensures.0 c.free_names-fs.ensures.1
