-- Texts of digits alone, and texts that no digit begins: what stands before a number's end, and after it.
-- Assumes nothing.
use Rattle.std.specs.Prelude.{Bool, true, not, ◌&&◌, List, [], ◌∷◌, ℕ}
use Rattle.text.specs.Number.{numeral}

unfoldable pub all_numerals : List ℕ → Bool
all_numerals [] = true
all_numerals (b ∷ s) = numeral b && all_numerals s

unfoldable pub stops : List ℕ → Bool
stops [] = true
stops (b ∷ s) = not (numeral b)
