-- Texts of bytes above 0x20: none of these is a blank or 0x0A. Assumes nothing.
use Rattle.std.specs.Prelude.{Bool, true, ◌&&◌, List, [], ◌∷◌, ℕ, ltb}
use Rattle.text.specs.Bytes.{space}

unfoldable pub solid : List ℕ → Bool
solid [] = true
solid (b ∷ s) = ltb space b && solid s
