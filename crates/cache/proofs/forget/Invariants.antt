use Rattle.cache.specs.Cache.{Honest}
use Rattle.std.proofs.Common.{◌≡◌, ℕ, List, length}
use Rattle.cache.proofs.forget.Given as goal

abbrev pub invariant-loop-i : goal.invariant-loop-i
invariant-loop-i l =
    (length l.mem ≡ 18432) × (length l.mem ≡ length l.initial.mem)
    × ((cl given : List ℕ) (kn val v : ℕ) → Honest cl given kn val v l.initial.mem → Honest cl given kn val v l.mem)
