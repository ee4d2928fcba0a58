-- `pushed`: a store past the names that are there. Assumes nothing.
use mathlib.Core.Path.{refl}
use native.Mathlib.Omega.{arith}
use Rattle.network.specs.ShownLaws.{named_more}
use Rattle.network.proofs.Arrays.{list_sized}
use Rattle.network.proofs.pushed.Goals as goal

pub returns : goal.returns
returns c = (named_more c.args.ns.list c.args.ns.count c.args.v (omega (arith, c.requires, list_sized c.args.ns c.well_formed.0)), refl)
