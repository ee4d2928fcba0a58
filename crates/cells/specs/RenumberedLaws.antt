-- Outputs numbered anew: cells that serve still serve, whatever numbers name their readers, and one output may read what another one
-- reads. Telling apart and counting look at the tables and at whether the one output reads a cell, and both stay. Assumes nothing.
use Rattle.std.specs.Prelude.{◌≡◌, refl, Bool, List, [], ◌∷◌, ◌++◌, ℕ, zero, suc, ◌+◌, ◌*◌, ◌≤◌, ◌<◌, length}
use Rattle.std.proofs.Common.{sym, ap, ap₂, ◌∙◌, subst, inl, inr, ⊎_elim}
use Rattle.bits.specs.Digit.{on}
use Rattle.bits.specs.Logic.{bit}
use Rattle.cells.specs.Core.{Cell, Apart, reading, Serves, cells_from}
use Rattle.cells.specs.Codes.{number_of, code_of}
use Rattle.cells.specs.FullSize.{read_by}
use Rattle.cells.specs.Renumbered.{renumbered, ReadsAs}

-- ---- who reads what
reads_as_apart : (o q x y : ℕ) (l k : List Cell) → ReadsAs o q l k → Apart q x y k → Apart o x y l
reads_as_apart o q x y [] [] r a = a
reads_as_apart o q x y [] (d ∷ k) r a = absurd r
reads_as_apart o q x y (c ∷ l) [] r a = absurd r
reads_as_apart o q x y (c ∷ l) (d ∷ k) r a = ⊎_elim
    (λ p. inl (r.1 ∙ p.0, λ e. p.1 (sym (ap (λ (t : ℕ → Bool). t x) r.0) ∙ e ∙ ap (λ (t : ℕ → Bool). t y) r.0)))
    (λ w. inr (reads_as_apart o q x y l k r.2 w))
    a

reads_as_reading : (o q : ℕ) (l k : List Cell) → ReadsAs o q l k → reading o l ≡ reading q k
unfolding reading
reads_as_reading o q [] [] r = refl
reads_as_reading o q [] (d ∷ k) r = absurd r
reads_as_reading o q (c ∷ l) [] r = absurd r
reads_as_reading o q (c ∷ l) (d ∷ k) r = ap₂ (λ (a : Bool) (b : ℕ). bit a + b) r.1 (reads_as_reading o q l k r.2)

pub reads_as_append : (o q : ℕ) (l k l' k' : List Cell) → ReadsAs o q l k → ReadsAs o q l' k' → ReadsAs o q (l ++ l') (k ++ k')
reads_as_append o q [] [] l' k' r s = s
reads_as_append o q [] (d ∷ k) l' k' r s = absurd r
reads_as_append o q (c ∷ l) [] l' k' r s = absurd r
reads_as_append o q (c ∷ l) (d ∷ k) l' k' r s = (r.0, r.1, reads_as_append o q l k l' k' r.2 s)

-- cells that serve n outputs serve m, where each of these reads what one of the n reads, has to tell apart no more and has its
-- budget
pub serves_as : (v m n : ℕ) (Conflict Conflict' : ℕ → ℕ → ℕ → Type 0) (budget budget' : ℕ → ℕ) (l k : List Cell)
    → ((o : ℕ) → o < m → (q : ℕ) × (q < n) × ((x y : ℕ) → x < v → y < v → Conflict' o x y → Conflict q x y) × (budget' o ≡ budget q) × ReadsAs o q l k)
    → Serves v n Conflict budget k → Serves v m Conflict' budget' l
serves_as v m n Conflict Conflict' budget budget' l k t s = record {
  tells = λ o x y h i j c. let w = t o h in reads_as_apart o w.0 x y l k w.4 (s.tells w.0 x y w.1 i j (w.2 x y i j c));
  within = λ o h. let w = t o h in
      subst (λ (n : ℕ). n ≤ budget' o) (sym (reads_as_reading o w.0 l k w.4)) (subst (λ (n : ℕ). reading w.0 k ≤ n) (sym w.3) (s.within w.0 w.1));
}

-- ---- cells with their readers numbered anew
pub renumbered-length : (from : ℕ → ℕ) (l : List Cell) → length (renumbered from l) ≡ length l
unfolding renumbered
renumbered-length from [] = refl
renumbered-length from (c ∷ l) = ap suc (renumbered-length from l)

pub renumbered_code : (from : ℕ → ℕ) (l : List Cell) (x : ℕ) → code_of (renumbered from l) x ≡ code_of l x
unfolding renumbered number_of
renumbered_code from [] x = refl
renumbered_code from (c ∷ l) x = ap (λ (n : ℕ). bit (c.table x) + 2 * n) (renumbered_code from l x)

pub renumbered_reads_as : (from : ℕ → ℕ) (o : ℕ) (l : List Cell) → ReadsAs o (from o) (renumbered from l) l
unfolding renumbered
renumbered_reads_as from o [] = tt
renumbered_reads_as from o (c ∷ l) = (refl, refl, renumbered_reads_as from o l)

-- ---- cells as numbers give them: output o has the row that output q had
pub cells_read_as : (o q n i : ℕ) (rows rows' codes : ℕ → ℕ) → rows' o ≡ rows q → ReadsAs o q (cells_from n i rows' codes) (cells_from n i rows codes)
unfolding cells_from
cells_read_as o q zero i rows rows' codes e = tt
cells_read_as o q (suc n) i rows rows' codes e = (refl, ap (λ (z : ℕ). on z i) e, cells_read_as o q n (suc i) rows rows' codes e)

pub read_by_reads_as : (o q i : ℕ) (rows rows' : ℕ → ℕ) (l : List Cell) → rows' o ≡ rows q → ReadsAs o q (read_by i rows' l) (read_by i rows l)
unfolding read_by
read_by_reads_as o q i rows rows' [] e = tt
read_by_reads_as o q i rows rows' (c ∷ l) e = (refl, ap (λ (z : ℕ). on z i) e, read_by_reads_as o q (suc i) rows rows' l e)
