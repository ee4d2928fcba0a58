use Rattle.std.proofs.Common.{refl}
use Rattle.limits.specs.Limits.{max_vertices}
use Rattle.joint.specs.MergeLaws.{vertices_zero, merged_start}
use Rattle.joint.proofs.merge.Goals as goal

pub loop-x-init : goal.loop-x-init
loop-x-init c = merged_start c.args.cl.now c.args.j c.args.kn c.args.val _ _ refl refl (vertices_zero max_vertices)
