-- Texts with no 0x0A: what a line holds. Lines with none in any. Assumes nothing.
use Rattle.std.specs.Prelude.{Bool, true, not, ◌&&◌, List, [], ◌∷◌, ℕ, eqb}
use Rattle.text.specs.Bytes.{newline}

unfoldable pub unbroken : List ℕ → Bool
unbroken [] = true
unbroken (b ∷ s) = not (eqb b newline) && unbroken s

unfoldable pub all_unbroken : List (List ℕ) → Bool
all_unbroken [] = true
all_unbroken (l ∷ ls) = unbroken l && all_unbroken ls
