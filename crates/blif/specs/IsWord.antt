-- Words: texts of bytes above 0x20, one at least. Assumes nothing.
use Rattle.std.specs.Prelude.{Bool, true, false, ◌&&◌, List, [], ◌∷◌, ℕ}
use Rattle.text.specs.Solid.{solid}

abbrev pub is_word : List ℕ → Bool
is_word [] = false
is_word (b ∷ s) = solid (b ∷ s)

unfoldable pub all_words : List (List ℕ) → Bool
all_words [] = true
all_words (w ∷ ws) = is_word w && all_words ws
