use Rattle.std.proofs.Common.{◌*◌, refl}
use Rattle.limits.specs.Limits.{label_count}
use Rattle.bits.specs.FilledLaws.{filled_none}
use Rattle.cells.specs.ListLaws.{zeros_are}
use Rattle.relation.proofs.copied.Goals as goal

pub loop-k-init : goal.loop-k-init
loop-k-init c = record { filled = filled_none _ _ refl; rest = λ l h. zeros_are (2 * label_count) l }
