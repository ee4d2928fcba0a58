-- A row plus one counted over some of its digits alone, as a definition. Assumes nothing.
use Rattle.std.specs.Prelude.{ℕ, ◌+◌}
use Rattle.std.specs.Int.Bits.{bit_and, bit_or}

-- where each digit is one of `bound` or one of `free`, the digits of `bound` stay, and those of `free`, read as one number, count
-- one further. With the bound digits 1 a carry passes through them to the next free digit, and what it leaves there is cleared
unfoldable pub stepped : ℕ → ℕ → ℕ → ℕ
stepped bound free r = bit_or (bit_and (bit_or r bound + 1) free) (bit_and r bound)
