use Rattle.readers.specs.MasksLaws.{start_of_lem}
use Rattle.readers.proofs.begin.Goals as goal

pub returns : goal.returns
returns c = let a = c.args in start_of_lem a.kn a.val c.fitting_sets.result c.fitting_sets.ensures.fits
