-- `place`: the library's search, and what its place says. Assumes nothing.
use Rattle.std.proofs.Common.{rules}
use Rattle.std.proofs.lemmas.Iterator.{YieldsList-from_slice}
use Rattle.std.proofs.lemmas.Iterator.Search.{position_from_yields_List}
use Rattle.classes.proofs.Search.{placing}
use Rattle.classes.proofs.place.Goals as goal

pub returns : goal.returns
returns c = placing _ _ _ (position_from_yields_List _ _ _ _ c.position.ensures.ran (YieldsList-from_slice c.args.bound.now cc) (λ x b q k. search rules))
