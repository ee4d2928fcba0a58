-- `execute_all`: each block is shorter than what is left, so there are at most as many blocks as bytes passed, and of wrong ones no
-- more. The measure is what is left. Assumes nothing.
use Rattle.std.proofs.Common.{◌+◌, ◌≤◌, length}
use Rattle.tablecases.proofs.execute_all.Given as goal

abbrev pub invariant-loop-rest : goal.invariant-loop-rest
invariant-loop-rest g l = (l.done + length l.rest ≤ length l.t) × (l.wrong ≤ l.done)

abbrev pub decreases-loop-rest : goal.decreases-loop-rest
decreases-loop-rest g l = length l.rest
