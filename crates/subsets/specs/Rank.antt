-- The number by which sets of equal number are put in order: the digits of a set, the lowest output first, read as a number of m
-- digits. The earlier set has the greater number. Assumes nothing.
use Rattle.std.specs.Prelude.{ℕ, zero, suc, ◌+◌, ◌*◌}
use Rattle.bits.specs.Digit.{digit}

-- output o of m is worth 2 ^ (m - 1 - o)
unfoldable pub rank : ℕ → ℕ → ℕ
rank zero s = 0
rank (suc m) s = rank m s * 2 + digit s m
