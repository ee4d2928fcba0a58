-- `numbered`: each turn gives one vertex its class. Assumes nothing.
use Rattle.std.proofs.Common.{◌≡◌, ℕ, Bool, ◌<◌, ◌≤◌}
use Rattle.classes.specs.ClassLaws.{Equivalence}
use Rattle.classes.proofs.Counting.{Numbered}
use Rattle.classes.proofs.numbered.Given as goal

abbrev pub invariant-loop-x : goal.invariant-loop-x
invariant-loop-x g l =
    (l.count ≤ l.x)
    × ((r : ℕ → ℕ → Bool) → Equivalence r
    → ((y x : ℕ) (b : Bool) → y < x → x < l.vertices → goal.F-post g l.same (record { 0 = y }) (record { 0 = x }) b → b ≡ r y x)
    → Numbered r l.numbers l.x l.count)
