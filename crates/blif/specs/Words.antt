-- BLIF: the bytes of a line, and the line's words, which blanks part (clause 12.5). Assumes nothing.
use Rattle.std.specs.Prelude.{Bool, true, false, not, ◌&&◌, ◌||◌, List, [], ◌∷◌, ℕ, eqb, leb}
use Rattle.bits.specs.Logic.{pick}
use Rattle.text.specs.Bytes.{space}
use Rattle.text.specs.Line.{onto}

abbrev pub tab : ℕ
tab = 0x09

-- ---- the bytes of a line that has no comment, which `#` begins, and that no `\` continues on the next line
abbrev pub number_sign : ℕ
number_sign = 0x23

abbrev pub backslash : ℕ
backslash = 0x5C

unfoldable pub plain_byte : ℕ → Bool
plain_byte b = leb 0x20 b && leb b 0x7E && not (eqb b number_sign) && not (eqb b backslash) || eqb b tab

unfoldable pub plain : List ℕ → Bool
plain [] = true
plain (b ∷ l) = plain_byte b && plain l

unfoldable pub all_plain : List (List ℕ) → Bool
all_plain [] = true
all_plain (l ∷ ls) = plain l && all_plain ls

-- ---- words
unfoldable pub blank : ℕ → Bool
blank b = eqb b space || eqb b tab

-- whether a word goes on at the front of a text
abbrev pub goes_on : List ℕ → Bool
goes_on [] = false
goes_on (b ∷ s) = not (blank b)

-- the words of a line: its longest parts without a blank
unfoldable pub words : List ℕ → List (List ℕ)
words [] = []
words (b ∷ s) =
    let rest = words s in
    pick (blank b) rest (pick (goes_on s) (onto b rest) ((b ∷ []) ∷ rest))
