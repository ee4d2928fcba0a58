-- The case of letters: A to Z and a to z are the same letters, and no other byte has a case (clause 3.4). Assumes nothing.
use Rattle.std.specs.Prelude.{Bool, ◌&&◌, List, map, ℕ, ◌+◌, leb}
use Rattle.bits.specs.Logic.{pick}

abbrev pub small : ℕ → Bool
small b = leb 0x61 b && leb b 0x7A

abbrev pub capital : ℕ → Bool
capital b = leb 0x41 b && leb b 0x5A

-- a capital as its small letter; any other byte is itself
unfoldable pub lower : ℕ → ℕ
lower b = pick (capital b) (b + 0x20) b

-- a text in small letters
abbrev pub lowered : List ℕ → List ℕ
lowered s = map lower s
