-- `with_node`: the mask and the place are stored for the output. Assumes nothing.
use Rattle.std.proofs.Common.{refl}
use Rattle.netsheet.proofs.with_node.Goals as goal

pub returns : goal.returns
returns c = rw c.after_node.ensures refl
