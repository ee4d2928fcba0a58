-- A name as one number: its bytes are the number's digits to the base 256, the first byte lowest. A name has at most 8
-- bytes, none of them 0, so 64 bits hold it, and the number gives the name back. Assumes nothing.
use Rattle.std.specs.Prelude.{[], ◌∷◌, ℕ, zero, suc, ◌+◌, ◌*◌, ◌/◌, ◌%◌, eqb}
use Rattle.bits.specs.Logic.{pick}
use Rattle.limits.specs.Limits.{max_name}
use Rattle.names.specs.Name.{Name}

unfoldable pub pack : Name → ℕ
pack [] = 0
pack (b ∷ s) = b + 256 * pack s

unfoldable pub unpack_within : ℕ → ℕ → Name
unpack_within zero v = []
unpack_within (suc k) v =
    let others = unpack_within k (v / 256) in
    pick (eqb v 0) [] (v % 256 ∷ others)

-- the name that a number holds
unfoldable pub name_of : ℕ → Name
name_of v = unpack_within max_name v
