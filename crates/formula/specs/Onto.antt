-- Operands put before others, and the largest of some numbers. Assumes nothing.
use Rattle.std.specs.Prelude.{List, [], ◌∷◌, ℕ, max}
use Rattle.formula.specs.Tree.{Formula, Operands, more}

abbrev pub onto : List Formula → Operands → Operands
onto [] os = os
onto (f ∷ fs) os = more f (onto fs os)

abbrev pub largest : List ℕ → ℕ
largest [] = 0
largest (d ∷ ds) = max d (largest ds)
