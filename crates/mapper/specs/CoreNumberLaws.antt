-- Every core is one that numbers give: the numbers of its cells' readers and values, whose digits are the readers and the values.
-- Assumes nothing.
use Rattle.std.specs.Prelude.{◌≡◌, refl, Bool, List, [], ◌∷◌, ℕ, suc, ◌+◌, length}
use Rattle.std.proofs.Common.{sym, ap, ap₂, ◌∙◌, add-zero, zero-add}
use Rattle.bits.specs.CountLaws.{suc_shift}
use Rattle.bits.specs.Digit.{on}
use Rattle.cells.specs.CodesLaws.{on-low, on_high}
use Rattle.cells.specs.Core.{Cell, cells_from, core_of}
use Rattle.cells.specs.Codes.{number_of, row_of, code_of}

cells-numbered : (l : List Cell) (i : ℕ) (rows codes : ℕ → ℕ)
    → ((o j : ℕ) → on (rows o) (i + j) ≡ on (row_of l o) j)
    → ((x j : ℕ) → on (codes x) (i + j) ≡ on (code_of l x) j)
    → cells_from (length l) i rows codes ≡ l
unfolding cells_from number_of
cells-numbered [] i rows codes r k = refl
cells-numbered (c ∷ l) i rows codes r k =
    ap₂ (λ (a : Cell) (t : List Cell). a ∷ t)
    (cell_same c (λ o. on (rows o) i) (λ x. on (codes x) i)
    (λ o. ap (on (rows o)) (sym (add-zero i)) ∙ r o 0 ∙ on-low (c.readers o) (row_of l o))
    (λ x. ap (on (codes x)) (sym (add-zero i)) ∙ k x 0 ∙ on-low (c.table x) (code_of l x)))
    (cells-numbered l (suc i) rows codes
    (λ o j. ap (on (rows o)) (suc_shift i j) ∙ r o (suc j) ∙ on_high (c.readers o) (row_of l o) j)
    (λ x j. ap (on (codes x)) (suc_shift i j) ∙ k x (suc j) ∙ on_high (c.table x) (code_of l x) j))
  where
    cell_same : (c : Cell) (rs ts : ℕ → Bool)
        → ((o : ℕ) → rs o ≡ c.readers o)
        → ((x : ℕ) → ts x ≡ c.table x)
        → record { table = ts; readers = rs } ≡ c
    cell_same c rs ts h k = λ i. record { table = λ x. k x i; readers = λ o. h o i }

pub core-numbered : (l : List Cell) → core_of (length l) (row_of l) (code_of l) ≡ l
core-numbered l =
    cells-numbered l 0 (row_of l) (code_of l) (λ o j. ap (on (row_of l o)) (zero-add j)) (λ x j. ap (on (code_of l x)) (zero-add j))
