-- Digits 0 and 1: reading so many is the inverse of printing them, and their print has bytes above 0x20 alone. Assumes nothing.
use Rattle.std.specs.Prelude.{◌≡◌, refl, Bool, true, false, List, [], ◌∷◌, ◌++◌, ℕ, zero, suc, eqb, length}
use Rattle.std.proofs.Common.{ap, ap₂, eqb-true}
use Rattle.bits.specs.Logic.{pick}
use Rattle.text.specs.Bytes.{found, bad, after}
use Rattle.text.specs.Solid.{solid}
use Rattle.text.specs.EatLaws.{bad_found, found-item, found-rest, after-found}
use Rattle.rows.specs.Digits.{digit}
use Rattle.network.specs.Printer.{print_digits}
use Rattle.network.specs.Reader.{read_digits}

pub digits_read_of_print : (ds : List Bool) (t : List ℕ) → read_digits (length ds) (print_digits ds ++ t) ≡ found ds t
unfolding read_digits print_digits
digits_read_of_print [] t = refl
digits_read_of_print (true ∷ ds) t = rw (digits_read_of_print ds t) refl
digits_read_of_print (false ∷ ds) t = rw (digits_read_of_print ds t) refl

-- k digits at the front of s, with t after them
pub record DigitsFront (k : ℕ) (s : List ℕ) (ds : List Bool) (t : List ℕ) : Type 0 where
  pub counted : length ds ≡ k
  pub is_split : s ≡ print_digits ds ++ t

-- a digit b before digits that were read
one_more : (k b : ℕ) (s : List ℕ) (v : Bool) (ds : List Bool) (t : List ℕ)
    → b ≡ digit v
    → ((es : List Bool) (u : List ℕ) → read_digits k s ≡ found es u → DigitsFront k s es u)
    → after (read_digits k s) (λ es u. found (v ∷ es) u) ≡ found ds t
    → DigitsFront (suc k) (b ∷ s) ds t
unfolding print_digits
one_more k b s v ds t q h e =
    let (es, u, f, g) = after-found (read_digits k s) (λ es u. found (v ∷ es) u) ds t e in
    let p = h es u f in
    let r : DigitsFront (suc k) (b ∷ s) (v ∷ es) u =
    record { counted = ap suc p.counted; is_split = ap₂ (λ (x : ℕ) (l : List ℕ). x ∷ l) q p.is_split } in
    rw (found-item g, found-rest g) at r

digits_by : (x y : Bool) (k b : ℕ) (s : List ℕ) (ds : List Bool) (t : List ℕ)
    → eqb b 0x30 ≡ x
    → eqb b 0x31 ≡ y
    → ((es : List Bool) (u : List ℕ) → read_digits k s ≡ found es u → DigitsFront k s es u)
    → pick x (after (read_digits k s) (λ es u. found (false ∷ es) u))
    (pick y (after (read_digits k s) (λ es u. found (true ∷ es) u)) bad) ≡ found ds t
    → DigitsFront (suc k) (b ∷ s) ds t
digits_by true y k b s ds t p q h e = one_more k b s false ds t (eqb-true b 0x30 p) h e
digits_by false true k b s ds t p q h e = one_more k b s true ds t (eqb-true b 0x31 q) h e
digits_by false false k b s ds t p q h e = absurd (bad_found e)

pub digits_print_of_read : (k : ℕ) (s : List ℕ) (ds : List Bool) (t : List ℕ)
    → read_digits k s ≡ found ds t
    → DigitsFront k s ds t
unfolding read_digits print_digits
digits_print_of_read zero s ds t e = rw (← found-item e, ← found-rest e) (record { counted = refl; is_split = refl })
digits_print_of_read (suc k) [] ds t e = absurd (bad_found e)
digits_print_of_read (suc k) (b ∷ s) ds t e =
    digits_by (eqb b 0x30) (eqb b 0x31) k b s ds t refl refl (λ es u f. digits_print_of_read k s es u f) e

pub digits_solid : (ds : List Bool) → solid (print_digits ds) ≡ true
unfolding print_digits solid
digits_solid [] = refl
digits_solid (true ∷ ds) = digits_solid ds
digits_solid (false ∷ ds) = digits_solid ds
