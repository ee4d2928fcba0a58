-- What a text's first byte opens. Assumes nothing.
use Rattle.std.specs.Prelude.{List, [], ◌∷◌, ℕ, eqb}
use Rattle.bits.specs.Logic.{pick}
use Rattle.text.specs.Bytes.{open_bracket}
use Rattle.text.specs.Number.{numeral}
use Rattle.names.specs.Name.{letter}
use Rattle.cursor.specs.declared.First.{First}
use Rattle.cursor.specs.declared.First.TheVariants.{Letter, Digit, Bracket, Other}

unfoldable pub first_of : ℕ → First
first_of b = pick (letter b) Letter (pick (numeral b) Digit (pick (eqb b open_bracket) Bracket Other))

-- nothing is opened where the text ends
unfoldable pub first_at : List ℕ → First
first_at [] = Other
first_at (b ∷ s) = first_of b
