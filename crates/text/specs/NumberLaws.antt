-- Reading a number is the inverse of printing it. Assumes nothing.
use Rattle.std.specs.Prelude.{◌≡◌, refl, true, ◌&&◌, List, [], ◌∷◌, ◌++◌, ℕ, zero, suc, ◌+◌, ◌-◌, ◌*◌, ◌/◌, ◌^◌, ◌≤◌, ◌<◌, eqb, leb, length}
use Rattle.std.proofs.Common.{sym, ap, ap₂, ◌∙◌, append_assoc, append-nil, pow-suc, arith, leb-true, le-leb, ne_eqb}
use Rattle.std.proofs.Math.Nat.{pow-le-pow_right}
use Rattle.std.proofs.Math.Decide.{dec_lt}
use Rattle.std.proofs.lemmas.Bool.{eqb-false, not-true}
use Rattle.bits.specs.LogicLaws.{true_false, and_left, and_right}
use Rattle.limits.specs.Limits.{max_digits}
use Rattle.text.specs.Bytes.{found}
use Rattle.text.specs.Number.{numeral, numerals, after_numerals, value_from, no_leading_zero, is_number_of, read_number_of, numeral_of, print_number_of, read_number, print_number}
use Rattle.text.specs.Numerals.{all_numerals, stops}
use Rattle.text.specs.NumeralLaws.{numeral-low, numeral_high, numerals_split, numerals_all, after-stops, numerals_of, after_of}
use Rattle.text.specs.FigureLaws.{print_one, print_more, print_short_of, print_numerals_of}
use Rattle.text.specs.EatLaws.{found-item, found-rest, pick-found}

-- ---- a print is a number, and its value is what was printed
value-last : (ds : List ℕ) (n d : ℕ) → value_from n (ds ++ (d ∷ [])) ≡ value_from n ds * 10 + (d - 0x30)
unfolding value_from
value-last [] n d = refl
value-last (b ∷ ds) n d = value-last ds (n * 10 + (b - 0x30)) d

-- digits that begin with a 0 are that digit alone, so their value is 0
no_zero_more : (ds : List ℕ) (d : ℕ) → no_leading_zero ds ≡ true → 0 < value_from 0 ds → no_leading_zero (ds ++ (d ∷ [])) ≡ true
unfolding value_from
no_zero_more [] d h l = absurd (true_false (sym h))
no_zero_more (a ∷ []) d h l = rw (ne_eqb a 0x30 (λ e. omega arith)) refl
no_zero_more (a ∷ b ∷ ds) d h l = h

record Printed (n : ℕ) (ds : List ℕ) : Type 0 where
  pub no_zero : no_leading_zero ds ≡ true
  pub value : value_from 0 ds ≡ n

printed_digit : (k n : ℕ) → n < 10 → Printed n (print_number_of (suc k) n)
unfolding value_from
printed_digit k n h = rw (print_one k n h) (record { no_zero = refl; value = omega arith })

printed_more : (k n : ℕ) → 10 ≤ n → Printed (n / 10) (print_number_of k (n / 10)) → Printed n (print_number_of (suc k) n)
printed_more k n h i =
    let ds = print_number_of k (n / 10) in
    rw (print_more k n h)
    (record {
      no_zero = no_zero_more ds (numeral_of n) i.no_zero (omega arith);
      value = value-last ds 0 (numeral_of n) ∙ omega arith;
    })

printed : (k n : ℕ) → n < 10 ^ suc k → Printed n (print_number_of (suc k) n)
printed zero n h = printed_digit zero n h
printed (suc k) n h =
    let p = pow-suc 10 (suc k) in
    elim (dec_lt n 10) as (λ _. Printed n (print_number_of (suc (suc k)) n)) [
      | yes l ↦ printed_digit (suc k) n l
      | no g ↦ printed_more (suc k) n (omega arith) (printed k (n / 10) (omega arith))
    ]

-- ---- digits that are a number are the print of their value
record Prints (k n : ℕ) (ds : List ℕ) : Type 0 where
  pub small : n < 10 ^ k
  pub is_print : print_number_of k n ≡ ds

prints_digit : (k d : ℕ) → numeral d ≡ true → Prints (suc k) (value_from 0 (d ∷ [])) (d ∷ [])
unfolding value_from
prints_digit k d e =
    let l = numeral-low d e in
    let h = numeral_high d e in
    let one : 1 ≤ suc k = omega arith in
    let p : 10 ^ 1 ≤ 10 ^ suc k = pow-le-pow_right (omega arith) one in
    record { small = omega arith; is_print = print_one k (value_from 0 (d ∷ [])) (omega arith) ∙ ap (λ (x : ℕ). x ∷ []) (omega arith) }

prints_more : (k n d : ℕ) (ds : List ℕ) → numeral d ≡ true → 0 < n → Prints k n ds → Prints (suc k) (n * 10 + (d - 0x30)) (ds ++ (d ∷ []))
prints_more k n d ds e g v =
    let l = numeral-low d e in
    let h = numeral_high d e in
    let p = pow-suc 10 k in
    let m = n * 10 + (d - 0x30) in
    let first : m / 10 ≡ n = omega arith in
    record {
      small = omega arith;
      is_print = print_more k m (omega arith)
          ∙ ap₂ (λ (s : List ℕ) (x : ℕ). s ++ (x ∷ [])) (ap (print_number_of k) first ∙ v.is_print) (omega arith);
    }

prints_all : (ds : List ℕ) (k n : ℕ) (s : List ℕ)
    → all_numerals ds ≡ true → 0 < n → Prints k n s
    → Prints (k + length ds) (value_from n ds) (s ++ ds)
unfolding all_numerals value_from
prints_all [] k n s h g v =
    let e : k + 0 ≡ k = omega arith in
    rw (e, append-nil) v
prints_all (d ∷ ds) k n s h g v =
    let e : k + suc (length ds) ≡ suc k + length ds = omega arith in
    let m = prints_more k n d s (and_left (numeral d) (all_numerals ds) h) g v in
    rw (e, ← append_assoc s (d ∷ []) ds)
    (prints_all ds (suc k) (n * 10 + (d - 0x30)) (s ++ (d ∷ [])) (and_right (numeral d) (all_numerals ds) h) (omega arith) m)

digits_print : (k : ℕ) (ds : List ℕ) → length ds ≤ k → all_numerals ds ≡ true → no_leading_zero ds ≡ true → Prints k (value_from 0 ds) ds
unfolding all_numerals value_from
digits_print k [] l h z = absurd (true_false (sym z))
digits_print k (a ∷ []) l h z =
    let e : k ≡ suc (k - 1) = omega arith in
    rw e (prints_digit (k - 1) a (and_left (numeral a) true h))
digits_print k (a ∷ b ∷ ds) l h z =
    let j = k - length (a ∷ b ∷ ds) in
    let e : k ≡ suc j + length (b ∷ ds) = omega arith in
    let f = and_left (numeral a) (all_numerals (b ∷ ds)) h in
    let low = numeral-low a f in
    let g = eqb-false a 0x30 (not-true (eqb a 0x30) z) in
    rw e (prints_all (b ∷ ds) (suc j) (value_from 0 (a ∷ [])) (a ∷ []) (and_right (numeral a) (all_numerals (b ∷ ds)) h) (omega arith) (prints_digit j a f))

-- ---- reading and printing, for numbers of at most k digits
pub read_printed_of : (k n : ℕ) (t : List ℕ)
    → 0 < k → n < 10 ^ k → stops t ≡ true
    → read_number_of k (print_number_of k n ++ t) ≡ found n t
unfolding read_number_of is_number_of
read_printed_of zero n t l h z = absurd (omega arith)
read_printed_of (suc k) n t l h z =
    let ds = print_number_of (suc k) n in
    let p = printed k n h in
    let all = print_numerals_of (suc k) n in
    rw (numerals_of ds t all z, after_of ds t all z, p.no_zero, le-leb (length ds) (suc k) (print_short_of (suc k) n), p.value) refl

-- a text that begins with the print of n, and goes on with t
pub record NumberThen (k : ℕ) (s : List ℕ) (n : ℕ) (t : List ℕ) : Type 0 where
  pub small : n < 10 ^ k
  pub is_print : s ≡ print_number_of k n ++ t
  pub stopped : stops t ≡ true

-- the digits at the front of s, where they are a number
record Front (k : ℕ) (s : List ℕ) (n : ℕ) (t : List ℕ) : Type 0 where
  pub no_zero : no_leading_zero (numerals s) ≡ true
  pub short : length (numerals s) ≤ k
  pub value : value_from 0 (numerals s) ≡ n
  pub onward : after_numerals s ≡ t

front : (k : ℕ) (s : List ℕ) (n : ℕ) (t : List ℕ) → read_number_of k s ≡ found n t → Front k s n t
unfolding read_number_of is_number_of
front k s n t e =
    let ds = numerals s in
    let p = pick-found (no_leading_zero ds && leb (length ds) k) (found (value_from 0 ds) (after_numerals s)) e in
    record {
      no_zero = and_left (no_leading_zero ds) (leb (length ds) k) p.0;
      short = leb-true (length ds) k (and_right (no_leading_zero ds) (leb (length ds) k) p.0);
      value = found-item p.1;
      onward = found-rest p.1;
    }

pub number_found_of : (k : ℕ) (s : List ℕ) (n : ℕ) (t : List ℕ) → read_number_of k s ≡ found n t → NumberThen k s n t
number_found_of k s n t e =
    let f = front k s n t e in
    let p = digits_print k (numerals s) f.short (numerals_all s) f.no_zero in
    record {
      small = rw f.value at p.small;
      is_print = numerals_split s ∙ ap₂ (λ (a b : List ℕ). a ++ b) (sym p.is_print ∙ ap (print_number_of k) f.value) f.onward;
      stopped = rw f.onward at (after-stops s);
    }

-- ---- the numbers of a design sheet
pub read_printed : (n : ℕ) (t : List ℕ) → n < 1000 → stops t ≡ true → read_number (print_number n ++ t) ≡ found n t
unfolding read_number print_number
read_printed n t h k = read_printed_of max_digits n t (omega arith) h k

pub number-found : (s : List ℕ) (n : ℕ) (t : List ℕ) → read_number s ≡ found n t → NumberThen max_digits s n t
unfolding read_number
number-found = number_found_of max_digits
