-- Of codes of d in different blocks all but k are in rest, which gets smaller with each turn.
use Rattle.holding.specs.Reach.{Left}
use Rattle.problem.specs.Problem.{Block}
use lib.ListN.{get_or}
use Prim.Native.Nat.{ℕ, ◌<◌, ◌+◌, ◌*◌}
use Rattle.holding.proofs.fewer_blocks.Given as goal

abbrev pub invariant-loop-rest : goal.invariant-loop-rest
invariant-loop-rest l = (mask : ℕ) → ((c : ℕ) → c < 64 → Block mask c (get_or l.bs (l.o * 64 + c) 0)) → Left mask l.d l.rest l.k

abbrev pub decreases-loop-rest : goal.decreases-loop-rest
decreases-loop-rest l = l.rest
