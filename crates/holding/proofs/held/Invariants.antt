-- The first y vertices are looked at.
use Rattle.holding.specs.Held.{Held}
use Rattle.problem.specs.Problem.{Block}
use lib.ListN.{get_or}
use Prim.Native.Nat.{ℕ, ◌<◌, ◌+◌, ◌*◌}
use Rattle.holding.proofs.held.Given as goal

abbrev pub invariant-loop-y : goal.invariant-loop-y
invariant-loop-y l = (mask : ℕ) → ((k : ℕ) → k < 64 → Block mask k (get_or l.bs (l.o * 64 + k) 0)) → Held l.cl l.codes l.o mask l.y l.own l.owns
