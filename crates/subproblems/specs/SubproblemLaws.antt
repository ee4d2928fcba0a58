-- What no codes answer stays so where more outputs are asked about, since codes that answer a larger set answer its parts; and
-- rows that are equal ask the same. So a subproblem that is ruled out rules out every one around it. Assumes nothing.
use Rattle.std.specs.Prelude.{◌≡◌, Bool, true, false, List, ℕ, ◌%◌, ◌<◌}
use Rattle.std.proofs.Common.{sym, ap, ◌∙◌, subst}
use Rattle.std.specs.Int.Bits.{bit_and}
use Rattle.std.proofs.lemmas.Nat.{and_mask}
use Rattle.limits.specs.Limits.{search_outputs}
use Rattle.bits.specs.Logic.{andb}
use Rattle.bits.specs.Digit.{on}
use Rattle.bits.specs.DigitLaws.{on_and, on-ones}
use Rattle.bits.specs.LogicLaws.{and_true}
use Rattle.relation.specs.Relation.{Left}
use Rattle.subproblems.specs.Subproblem.{open_of, given_of, Answers, Barred, Settled}

-- the open cells of a row are its first digits
pub on_open : (row i : ℕ) → i < 6 → on (row % 64) i ≡ on row i
on_open row i h = ap (λ (z : ℕ). on z i) (sym (and_mask row 6)) ∙ on_and row 63 i ∙ ap (andb (on row i)) (on-ones 6 i h) ∙ and_true (on row i)

module _ (cl given : List ℕ) (kn val v : ℕ) where
  -- codes that answer a subproblem answer each subproblem about fewer outputs, with the same rows for these
  answers_fewer : (a b : ℕ) (rows rows' f : ℕ → ℕ) → ((o : ℕ) → o < search_outputs → on a o ≡ true → on b o ≡ true)
      → ((o : ℕ) → o < search_outputs → on a o ≡ true → rows o ≡ rows' o)
      → Answers cl given kn val v b rows' f → Answers cl given kn val v a rows f
  answers_fewer a b rows rows' f sub same s = record {
    tells = λ o x y h i c d l e. s.tells o x y h (sub o h i) c d (subst (λ (r : ℕ). Left cl given (given_of r) o x y) (same o h i) l)
        (subst (λ (r : ℕ). bit_and (f x) (open_of r) ≡ bit_and (f y) (open_of r)) (same o h i) e);
    fixed = s.fixed;
  }

  pub barred_more : (a b : ℕ) (rows rows' : ℕ → ℕ) → ((o : ℕ) → o < search_outputs → on a o ≡ true → on b o ≡ true)
      → ((o : ℕ) → o < search_outputs → on a o ≡ true → rows o ≡ rows' o) → Barred cl given kn val v a rows → Barred cl given kn val v b rows'
  barred_more a b rows rows' sub same s = record { none = λ f z w. s.none f z (answers_fewer a b rows rows' f sub same w) }

  -- an answer that there are no codes
  pub settled_barred : (asked : ℕ) (rows : ℕ → ℕ) (ok : Bool) (codes : List ℕ) → Settled cl given kn val v asked rows ok codes → ok ≡ false → Barred cl given kn val v asked rows
  settled_barred asked rows ok codes s e = subst (λ (b : Bool). Settled cl given kn val v asked rows b codes) e s
