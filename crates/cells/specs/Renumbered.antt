-- Cells whose readers have other numbers, and an output that reads what another one reads. Assumes nothing.
use Rattle.std.specs.Prelude.{◌≡◌, List, [], ◌∷◌, ℕ}
use Rattle.cells.specs.Core.{Cell}

-- the cells with output o named by from o before
unfoldable pub renumbered : (ℕ → ℕ) → List Cell → List Cell
renumbered from [] = []
renumbered from (c ∷ l) = record { table = c.table; readers = λ o. c.readers (from o) } ∷ renumbered from l

-- output o reads of the cells l what output q reads of the cells k, which have the same tables
abbrev pub ReadsAs : ℕ → ℕ → List Cell → List Cell → Type 0
ReadsAs o q [] [] = Unit {0}
ReadsAs o q [] (d ∷ k) = ⊥
ReadsAs o q (c ∷ l) [] = ⊥
ReadsAs o q (c ∷ l) (d ∷ k) = (c.table ≡ d.table) × (c.readers o ≡ d.readers q) × ReadsAs o q l k
