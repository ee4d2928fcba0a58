-- Texts one after another. Assumes nothing.
use Rattle.std.specs.Prelude.{List, [], ◌++◌, ℕ, zero, suc}

-- the first n texts that f says
unfoldable pub texts_upto : (ℕ → List ℕ) → ℕ → List ℕ
texts_upto f zero = []
texts_upto f (suc n) = texts_upto f n ++ f n
