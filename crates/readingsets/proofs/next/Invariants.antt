-- Of the first o outputs the best without a row is kept.
use Rattle.std.proofs.Common.{◌≡◌, ℕ, ◌<◌, true, false, MatchOption}
use Rattle.bits.specs.Digit.{on}
use Rattle.readingsets.proofs.next.Given as goal

abbrev pub invariant-loop-o : goal.invariant-loop-o
invariant-loop-o l = MatchOption l.best ((q : ℕ) → q < l.o → on l.done q ≡ true) (λ b. (b.0 < l.o) × (on l.done b.0 ≡ false))
