-- The codes that the first k groups allow.
use Rattle.std.proofs.Common.{ℕ, List}
use Rattle.problem.specs.Problem.{Blocks}
use Rattle.coding.specs.Values.{Groups, Marks, Over, Canon}
use Rattle.coding.proofs.allowed.Given as goal

abbrev pub invariant-loop-k : goal.invariant-loop-k
invariant-loop-k l = (gs : List ℕ) (sh : ℕ) → Over sh l.all → Blocks gs l.gb 3 → Groups gs sh → Marks gs l.used → Canon gs l.used sh l.k l.can
