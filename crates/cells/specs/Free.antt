-- Changes of a core that serves: other tables for the same readers, more cells read, idle cells. Assumes nothing.
use Rattle.std.specs.Prelude.{Bool, false, not, List, [], ◌∷◌, ℕ, zero, suc, ◌-◌, ltb}
use Rattle.bits.specs.Logic.{orb, bit}
use Rattle.cells.specs.Core.{Cell}

-- the cells with other tables: each has the one that g gives
unfoldable pub retabled : (Cell → ℕ → Bool) → List Cell → List Cell
retabled g [] = []
retabled g (c ∷ l) = record { table = g c; readers = c.readers } ∷ retabled g l

-- output o reads d o more of the cells, where there are so many
unfoldable pub filled : (ℕ → ℕ) → List Cell → List Cell
filled d [] = []
filled d (c ∷ l) = record { table = c.table; readers = λ o. orb (c.readers o) (ltb 0 (d o)) } ∷ filled (λ (o : ℕ). d o - bit (not (c.readers o))) l

-- n cells more, which are 0 everywhere and which nobody reads
unfoldable pub padded : ℕ → List Cell → List Cell
padded zero l = l
padded (suc n) l = record { table = λ x. false; readers = λ o. false } ∷ padded n l
