-- The first p parts are looked at.
use Rattle.holding.specs.Wants.{TightBelow}
use Rattle.holding.proofs.tight_parts.Given as goal

abbrev pub invariant-loop-p : goal.invariant-loop-p
invariant-loop-p l = TightBelow l.ts l.spot l.p l.r
