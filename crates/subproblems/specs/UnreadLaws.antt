-- A subproblem whose rows don't read cell 0. What is known of cell 0 has no part in its answer: codes that answer it are given
-- the known digits in cell 0, and 0 where none is known, and answer it still. So what has no codes under some known digits has
-- none under others. Assumes nothing.
use Rattle.std.specs.Prelude.{◌≡◌, refl, Bool, true, false, List, ℕ, zero, suc, ◌%◌, ◌<◌}
use Rattle.std.proofs.Common.{sym, ap, ◌∙◌, arith}
use Rattle.std.specs.Int.Bits.{bit_and}
use Rattle.bits.specs.Logic.{andb}
use Rattle.bits.specs.Digit.{on}
use Rattle.bits.specs.DigitLaws.{on_zero}
use Rattle.bits.specs.LogicLaws.{never_both}
use Rattle.cells.specs.PigeonLaws.{agree_and, and_agree}
use Rattle.cells.specs.CodesLaws.{on_digits, digits_none}
use Rattle.cells.specs.Codes.{digits_of}
use Rattle.subproblems.specs.Subproblem.{open_of, Barred}
use Rattle.subproblems.specs.SubproblemLaws.{on_open}

-- the digits of a code, with b in cell 0
abbrev with_cell_0 : Bool → ℕ → ℕ → Bool
with_cell_0 b code zero = b
with_cell_0 b code (suc i) = on code (suc i)

-- codes f with the known digits in cell 0
abbrev refilled : ℕ → ℕ → (ℕ → ℕ) → ℕ → ℕ
refilled kn val f x = digits_of (with_cell_0 (andb (on kn x) (on val x)) (f x)) 6

-- where vertex 0 is not known to have a 1 in cell 0, it keeps the code 0
refilled_zero : (kn val : ℕ) (f : ℕ → ℕ) → (on kn 0 ≡ true → on val 0 ≡ false) → f 0 ≡ 0 → refilled kn val f 0 ≡ 0
refilled_zero kn val f free z = digits_none (with_cell_0 (andb (on kn 0) (on val 0)) (f 0)) 6 none
  where
    low : (b : Bool) → on kn 0 ≡ b → andb b (on val 0) ≡ false
    low true e = free e
    low false e = refl

    none : (i : ℕ) → with_cell_0 (andb (on kn 0) (on val 0)) (f 0) i ≡ false
    none zero = low (on kn 0) refl
    none (suc i) = ap (λ (c : ℕ). on c (suc i)) z ∙ on_zero (suc i)

-- a row that doesn't read cell 0 reads the same of both codes
refilled_agree : (kn val row : ℕ) (f : ℕ → ℕ) (x y : ℕ) → on row 0 ≡ false → bit_and (refilled kn val f x) (open_of row) ≡ bit_and (refilled kn val f y) (open_of row)
    → bit_and (f x) (open_of row) ≡ bit_and (f y) (open_of row)
refilled_agree kn val row f x y off e = agree_and 6 (open_of row) (f x) (f y) (let z : row % 64 < 64 = omega arith in z) digit
  where
    digit : (j : ℕ) → j < 6 → on (open_of row) j ≡ true → on (f x) j ≡ on (f y) j
    digit zero h u = absurd (never_both u (on_open row 0 h ∙ off))
    digit (suc j) h u =
        sym (on_digits (with_cell_0 (andb (on kn x) (on val x)) (f x)) 6 (suc j) h)
        ∙ and_agree 6 (open_of row) (refilled kn val f x) (refilled kn val f y) e (suc j) h u
        ∙ on_digits (with_cell_0 (andb (on kn y) (on val y)) (f y)) 6 (suc j) h

pub barred_unread : (cl given : List ℕ) (kn val kn' val' v asked : ℕ) (rows : ℕ → ℕ) → (on kn 0 ≡ true → on val 0 ≡ false) → ((o : ℕ) → o < 8 → on (rows o) 0 ≡ false)
    → Barred cl given kn val v asked rows → Barred cl given kn' val' v asked rows
barred_unread cl given kn val kn' val' v asked rows free unread b = record {
  none = λ f z w. b.none (refilled kn val f) (refilled_zero kn val f free z) record {
    tells = λ o x y h a c d l e. w.tells o x y h a c d l (refilled_agree kn val (rows o) f x y (unread o h) e);
    fixed = λ x h a. on_digits (with_cell_0 (andb (on kn x) (on val x)) (f x)) 6 0 (omega arith) ∙ ap (λ (b : Bool). andb b (on val x)) a;
  };
}
