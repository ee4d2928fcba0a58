-- The values of the first k groups are marked.
use Rattle.std.proofs.Common.{ℕ, List}
use Rattle.problem.specs.Problem.{Blocks}
use Rattle.coding.specs.Values.{Marked}
use Rattle.coding.proofs.mark.Given as goal

abbrev pub invariant-loop-k : goal.invariant-loop-k
invariant-loop-k l = (gs : List ℕ) → Blocks gs l.gb 3 → Marked gs l.initial.r l.c l.k l.r
