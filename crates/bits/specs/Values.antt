-- The values of a test as a list: a column, a table, digits put down one after the other (clause 1.6). Assumes nothing.
use Rattle.std.specs.Prelude.{Bool, List, [], ◌∷◌, ◌++◌, ℕ, zero, suc}

-- the values of f at 0, 1, .., n - 1
unfoldable pub values_upto : (ℕ → Bool) → ℕ → List Bool
values_upto f zero = []
values_upto f (suc n) = values_upto f n ++ (f n ∷ [])
