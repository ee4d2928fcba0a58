use mathlib.Core.Path.{ap}
use native.Mathlib.Omega.{arith}
use Rattle.names.specs.Pack.{name_of}
use Rattle.network.specs.ShownLaws.{growing_none, growing_more, growing_all}
use Rattle.network.proofs.bound_names.Goals as goal

pub loop-i-init : goal.loop-i-init
loop-i-init c = (growing_none c.no_names-r.ensures.0, c.no_names-r.ensures.1)

pub loop-i-preserved : goal.loop-i-preserved
loop-i-preserved c = (growing_more c.loop-i.invariant.0 (omega arith) (omega arith) c.pushed-r.ensures.0 (ap name_of c.input_name.ensures), omega arith)

pub returns : goal.returns
returns c = (growing_all c.loop-i.invariant.0 (omega arith), omega (arith, c.loop-i.invariant.0.within))
