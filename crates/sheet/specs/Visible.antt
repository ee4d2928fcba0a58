-- Texts of bytes 0x20 to 0x7E alone: what a line holds. Lines with no other byte in any. Assumes nothing.
use Rattle.std.specs.Prelude.{Bool, true, ◌&&◌, List, [], ◌∷◌, ℕ}
use Rattle.sheet.specs.Examine.{within}

unfoldable pub visible : List ℕ → Bool
visible [] = true
visible (b ∷ s) = within 0x20 0x7E b && visible s

unfoldable pub all_visible : List (List ℕ) → Bool
all_visible [] = true
all_visible (l ∷ ls) = visible l && all_visible ls
