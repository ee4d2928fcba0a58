use mathlib.Core.Path.{refl}
use Rattle.cells.specs.ListLaws.{zeros_are}
use Rattle.lowerbounds.specs.RaisingLaws.{based_start}
use Rattle.lowerbounds.proofs.bases.Goals as goal

pub loop-o-init : goal.loop-o-init
loop-o-init c = let a = c.args in based_start a.cl.now a.rows a.v a.j _ refl (zeros_are 256)
