-- The digits that a table is written with, as definitions: one byte for each row, in row order (clause 5.6). Assumes nothing.
use Rattle.std.specs.Prelude.{Bool, true, false, List, [], ◌∷◌, ◌++◌, ℕ, zero, suc}

-- the byte that stands for a value
abbrev pub digit : Bool → ℕ
digit true = 0x31
digit false = 0x30

-- the digits of rows 0 to n - 1
unfoldable pub digits_upto : (ℕ → Bool) → ℕ → List ℕ
digits_upto f zero = []
digits_upto f (suc n) = digits_upto f n ++ (digit (f n) ∷ [])
