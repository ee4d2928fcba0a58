use Rattle.std.proofs.Common.{refl, inl}
use Rattle.cache.specs.CacheLaws.{honest_start}
use Rattle.cells.specs.ListLaws.{zeros_are}
use Rattle.border.proofs.main.Goals as goal

pub loop-init : goal.loop-init
loop-init c = (refl, inl refl, honest_start _ _ 0 0 0 _ refl (zeros_are 18432))
