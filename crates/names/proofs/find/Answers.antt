use Rattle.std.proofs.Common.{rules}
use Rattle.std.proofs.lemmas.Iterator.{YieldsList-from_slice}
use Rattle.std.proofs.lemmas.Iterator.Search.{position_from_yields_List}
use Rattle.names.proofs.Lookup.{position_is}
use Rattle.names.proofs.find.Goals as goal

pub returns : goal.returns
returns c = position_is _ _ _ (position_from_yields_List _ _ _ _ c.position.ensures.ran (YieldsList-from_slice c.args.among.now cc) (λ x b q k. search rules))
