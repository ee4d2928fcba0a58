-- `first_like`: each turn passes one vertex of another class. Assumes nothing.
use Rattle.std.proofs.Common.{◌≡◌, ℕ, Bool, ◌<◌}
use Rattle.classes.proofs.Search.{Unlike}
use Rattle.classes.proofs.first_like.Given as goal

abbrev pub invariant-loop-y : goal.invariant-loop-y
invariant-loop-y g l =
    (r : ℕ → ℕ → Bool) → ((y : ℕ) (b : Bool) → y < l.x → goal.F-post g l.same (record { 0 = y }) (record { 0 = l.x }) b → b ≡ r y l.x) → Unlike r l.x l.y
