use Rattle.std.proofs.Common.{ℕ, ◌-◌, ◌/◌, ◌^◌, ap}
use lib.Bits.{bit_and, bit_xor}
use Rattle.readingsets.proofs.still_alike.Goals as goal

pub returns : goal.returns
returns c = ap (λ (f : ℕ). bit_and c.args.same (2 ^ 8 - 1 - bit_xor f (f / 2))) c.open_of-f.ensures.0
