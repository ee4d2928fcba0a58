-- The binary digits of a number: digit k is worth 2 ^ k (clause 5.5). Assumes nothing.
use Rattle.std.specs.Prelude.{Bool, ℕ, ◌/◌, ◌%◌, ◌^◌, eqb}

-- digit k of n, 0 or 1
unfoldable pub digit : ℕ → ℕ → ℕ
digit n k = n / 2 ^ k % 2

-- whether digit k of n is 1
unfoldable pub on : ℕ → ℕ → Bool
on n k = eqb (digit n k) 1
