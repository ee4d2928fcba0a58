-- The first i entries are filled.
use Rattle.holding.specs.Blocks.{Table}
use Rattle.holding.proofs.blocks.Given as goal

abbrev pub invariant-loop-i : goal.invariant-loop-i
invariant-loop-i l = Table l.ms l.i l.r
