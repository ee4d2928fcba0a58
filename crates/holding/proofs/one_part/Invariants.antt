-- As far as all is true, the first l classes are of part p.
use Rattle.problem.specs.Problem.{part_at}
use Prim.Native.Nat.{ℕ, ◌<◌}
use mathlib.Core.Bool.{true}
use mathlib.Core.Path.{◌≡◌}
use Rattle.holding.proofs.one_part.Given as goal

abbrev pub invariant-loop-l : goal.invariant-loop-l
invariant-loop-l l = l.all ≡ true → (k : ℕ) → k < l.l → part_at l.cl l.o k ≡ l.p
