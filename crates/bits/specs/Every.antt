-- A test of every number below n as one truth value that can be computed: what a constant table's rule is proved by.
-- Assumes nothing.
use Rattle.std.specs.Prelude.{Bool, true, not, ℕ, zero, suc}
use Rattle.bits.specs.Logic.{andb, xorb}

unfoldable pub every : (ℕ → Bool) → ℕ → Bool
every t zero = true
every t (suc n) = andb (t n) (every t n)

-- whether two truth values are the same
abbrev pub same : Bool → Bool → Bool
same a b = not (xorb a b)
