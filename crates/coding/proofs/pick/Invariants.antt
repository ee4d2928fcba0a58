-- Of the first y vertices the best without a code is kept.
use Rattle.std.proofs.Common.{ℕ, ◌<◌, ◌≤◌, MatchOption}
use Rattle.problem.specs.Problem.{no_code, item}
use Rattle.coding.proofs.pick.Given as goal

abbrev pub invariant-loop-y : goal.invariant-loop-y
invariant-loop-y l = MatchOption l.best ((x : ℕ) → x < l.y → item l.codes x < no_code) (λ b. (b.0 < l.y) × (no_code ≤ item l.codes b.0))
