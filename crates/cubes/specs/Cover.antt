-- What cubes say of rows, in a PLA's own words (clause 13.5): an output is 1 on the rows that its cubes cover, and 0 on all others.
-- Assumes nothing.
use Rattle.std.specs.Prelude.{◌≡◌, Bool, true, false, not, ◌&&◌, ◌||◌, List, [], ◌∷◌, ℕ, ◌<◌, eqb, length, get_or}
use Rattle.bits.specs.Digit.{on}
use Rattle.cubes.specs.Cube.{Literal, is_zero, is_one, any, Cube}

-- whether an input may have the value v
abbrev pub admits : Literal → Bool → Bool
admits is_zero v = not v
admits is_one v = v
admits any v = true

-- whether literals cover row r; the first input is its highest digit
unfoldable pub covers : List Literal → ℕ → Bool
covers [] r = true
covers (l ∷ ls) r = admits l (on r (length ls)) && covers ls r

-- whether a cube has a 1 for output o
abbrev pub marked : Cube → ℕ → Bool
marked c o = eqb (get_or c.marks o 0) 0x31

-- the value of output o on row r: whether some cube with a 1 for o covers r
unfoldable pub cover_on : List Cube → ℕ → ℕ → Bool
cover_on [] o r = false
cover_on (c ∷ cs) o r = (marked c o && covers c.literals r) || cover_on cs o r

-- ---- the same as a statement
-- cube k, from 0
abbrev pub cube_at : List Cube → ℕ → Cube
cube_at cs k = get_or cs k (record { literals = []; marks = [] })

-- a cube with a 1 for output o covers row r
pub record Covered (cs : List Cube) (o r : ℕ) : Type 0 where
  pub which : ℕ
  pub inside : which < length cs
  pub has_one : marked (cube_at cs which) o ≡ true
  pub contains : covers (cube_at cs which).literals r ≡ true
