-- `equal`: each turn compares one free row, and the first difference decides. Assumes nothing.
use lib.ListN.{length}
use Rattle.classes.proofs.Comparing.{Agreeing}
use Rattle.classes.specs.Seen.{seen}
use Rattle.classes.proofs.equal.Given as goal

abbrev pub invariant-loop-f : goal.invariant-loop-f
invariant-loop-f l = Agreeing (seen l.t l.vertex l.free) (length l.free) l.fn.x.0 l.fn.y.0 l.f
