-- The lines of a text, each ended by 0x0A (clause 3.1). Assumes nothing.
use Rattle.std.specs.Prelude.{Bool, true, false, List, [], ◌∷◌, ◌++◌, ℕ, ◌-◌, eqb, get_or}
use Rattle.bits.specs.Logic.{pick}
use Rattle.text.specs.Bytes.{newline}

-- a byte put before the first of some lines; a text's last bytes are a line too where no 0x0A ends them
abbrev pub onto : ℕ → List (List ℕ) → List (List ℕ)
onto b [] = (b ∷ []) ∷ []
onto b (l ∷ ls) = (b ∷ l) ∷ ls

-- the lines of a text, without their 0x0A
unfoldable pub lines : List ℕ → List (List ℕ)
lines [] = []
lines (b ∷ s) =
    let rest = lines s in
    pick (eqb b newline) ([] ∷ rest) (onto b rest)

-- the text of some lines, each ended by 0x0A
unfoldable pub ended_lines : List (List ℕ) → List ℕ
ended_lines [] = []
ended_lines (l ∷ ls) = l ++ (newline ∷ ended_lines ls)

-- whether 0x0A is the last byte
unfoldable pub ends_line : List ℕ → Bool
ends_line [] = false
ends_line (b ∷ []) = eqb b newline
ends_line (b ∷ c ∷ s) = ends_line (c ∷ s)

-- whether no line follows
abbrev pub is_last : List (List ℕ) → Bool
is_last [] = true
is_last (l ∷ ls) = false

-- line l of some lines, the first being line 1
abbrev pub line_at : List (List ℕ) → ℕ → List ℕ
line_at ls l = get_or ls (l - 1) []
