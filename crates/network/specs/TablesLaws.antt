-- Digits 0 and 1 that stand in a line: so many are read digit by digit, and the line's end follows where the closing bracket
-- is the last byte. Assumes nothing.
use Rattle.std.specs.Prelude.{◌≡◌, refl, Bool, true, false, List, [], ◌∷◌, ◌++◌, ℕ, suc, ◌+◌, ◌-◌, ◌≤◌, ◌<◌, eqb, leb, length, take, drop, Option}
use Rattle.std.proofs.Math.Path.{sym, ap}
use Rattle.std.proofs.Common.{subst, ◌∙◌, length-drop, length-append, drop_of_length-le, drop-cons, eq-eqb, eqb-true, leb-true, leb-false}
use Rattle.std.proofs.Math.Option.{none}
use Rattle.std.proofs.Math.Option as math
use native.Mathlib.Omega.{arith}
use Rattle.std.proofs.lemmas.List.{length-map}
use Rattle.bits.specs.Logic.{pick}
use Rattle.text.specs.Bytes.{Read, found, bad, after, eat, whole, close_bracket}
use Rattle.text.specs.EatLaws.{bad_found, found-rest}
use Rattle.rows.specs.Digits.{digit}
use Rattle.sheet.specs.Lines.{closed}
use Rattle.classes.specs.Cases.{same_test}
use Rattle.cursor.specs.Item.{At, MovedIs, from}
use Rattle.cursor.specs.declared.Cursor.{Cursor}
use Rattle.network.specs.Printer.{print_digits}
use Rattle.network.specs.Reader.{read_digits, first_found}
use Rattle.network.specs.LineAnswer.{eat_digit, eat_digits, TableRead}
use Rattle.network.specs.ChainLaws.{part_missing, part_read}
use Rattle.network.specs.DigitsLaws.{digits_print_of_read}

-- ---- one digit
pub digit_zero : {s : List ℕ} {c : Cursor} (t : List ℕ) → At s tt c (eat (0x30 ∷ []) t) → At s tt c (eat_digit t)
digit_zero t h =
    record { inside = h.inside; is = ap (λ (r : Read (Unit {0})). first_found r (eat (0x31 ∷ []) t)) h.is }

pub digit_one : (s t : List ℕ) (m : Option Cursor) → bad ≡ eat (0x30 ∷ []) t → MovedIs s m (eat (0x31 ∷ []) t) → MovedIs s m (eat_digit t)
digit_one s t m e f =
    subst (λ (r : Read (Unit {0})). MovedIs s m r) (ap (λ (r : Read (Unit {0})). first_found r (eat (0x31 ∷ []) t)) e) f

-- ---- so many digits
eqb_turn : (a b : ℕ) → eqb a b ≡ eqb b a
eqb_turn a b =
    same_test (eqb a b) (eqb b a) (λ e. eq-eqb b a (sym (eqb-true a b e))) (λ e. eq-eqb a b (sym (eqb-true b a e)))

-- digits without their values
abbrev eaten : Read (List Bool) → Read (Unit {0})
eaten r = after r (λ _ t. found tt t)

-- a byte before s, by whether it is 0 and whether it is 1, and a digit before those that r finds
abbrev first_digit : Bool → Bool → List ℕ → Read (Unit {0})
first_digit x y s = first_found (pick x (found tt s) bad) (pick y (found tt s) bad)

abbrev with_digit : Bool → Bool → Read (List Bool) → Read (List Bool)
with_digit x y r = pick x (after r (λ ds t. found (false ∷ ds) t)) (pick y (after r (λ ds t. found (true ∷ ds) t)) bad)

one-digit : (x y : Bool) (s : List ℕ) (r : Read (List Bool)) (onward : List ℕ → Read (Unit {0}))
    → onward s ≡ eaten r
    → eaten (with_digit x y r) ≡ after (first_digit x y s) (λ _ t. onward t)
one-digit true y s (found ds t) onward e = sym e
one-digit true y s bad onward e = sym e
one-digit false true s (found ds t) onward e = sym e
one-digit false true s bad onward e = sym e
one-digit false false s r onward e = refl

digits_step : (k : ℕ) (s : List ℕ) → eat_digits (suc k) s ≡ after (eat_digit s) (λ _ t. eat_digits k t)
unfolding eat_digits read_digits eat
digits_step k [] = refl
digits_step k (b ∷ s) =
    rw (eqb_turn 0x30 b, eqb_turn 0x31 b)
    (one-digit (eqb b 0x30) (eqb b 0x31) s (read_digits k s) (λ t. eat_digits k t) refl)

-- of n digits, which are to stand from start on, the first i are read
pub record Skipping (s : List ℕ) (n start : ℕ) (next : Cursor) (i : ℕ) : Type 0 where
  pub inside : next.at ≤ length s
  pub to_come : eat_digits n (drop start s) ≡ eat_digits (n - i) (from s next)

pub skipping_none : (s : List ℕ) (n : ℕ) (c : Cursor) → c.at ≤ length s → Skipping s n c.at c 0
skipping_none s n c h =
    let all : n ≡ n - 0 = omega arith in
    record { inside = h; to_come = ap (λ (k : ℕ). eat_digits k (from s c)) all }

module _ {s : List ℕ} {n start : ℕ} {next : Cursor} {i : ℕ} (p : Skipping s n start next i) where
  module _ (more : i < n) where
    by_digit : eat_digits n (drop start s) ≡ after (eat_digit (from s next)) (λ _ t. eat_digits (n - (i + 1)) t)
    by_digit =
        let e : n - i ≡ suc (n - (i + 1)) = omega arith in
        p.to_come ∙ ap (λ (k : ℕ). eat_digits k (from s next)) e ∙ digits_step (n - (i + 1)) (from s next)

    pub skipping_missing : bad ≡ eat_digit (from s next) → bad ≡ eat_digits n (drop start s)
    skipping_missing e = part_missing (eat_digit (from s next)) (eat_digits (n - (i + 1))) e ∙ sym by_digit

    pub skipping_more : {c : Cursor} → At s tt c (eat_digit (from s next)) → Skipping s n start c (i + 1)
    skipping_more h =
        record { inside = h.inside; to_come = by_digit ∙ sym (part_read (eat_digit (from s next)) (eat_digits (n - (i + 1))) h) }

  pub skipping_all : n ≤ i → At s tt next (eat_digits n (drop start s))
  unfolding eat_digits read_digits
  skipping_all h =
      let e : n - i ≡ 0 = omega arith in
      record { inside = p.inside; is = sym (p.to_come ∙ ap (λ (k : ℕ). eat_digits k (from s next)) e) }

-- ---- the digits that end a line
-- digits whose values are not asked for are digits
digits_bad : (r : Read (List Bool)) → bad ≡ eaten r → r ≡ bad
digits_bad (found ds t) e = absurd (bad_found e)
digits_bad bad e = refl

digits_there : (r : Read (List Bool)) (t : List ℕ) → found tt t ≡ eaten r → (ds : List Bool) × (r ≡ found ds t)
digits_there (found ds u) t e = (ds, ap (λ (v : List ℕ). found ds v) (sym (found-rest e)))
digits_there bad t e = absurd (bad_found (sym e))

take-front : (l t : List ℕ) → take (length l) (l ++ t) ≡ l
take-front [] t = refl
take-front (b ∷ l) t = ap (λ (m : List ℕ). b ∷ m) (take-front l t)

printed_front : (ds : List Bool) (t : List ℕ) (n : ℕ) → length ds ≡ n → take n (print_digits ds ++ t) ≡ print_digits ds
unfolding print_digits
printed_front ds t n e =
    ap (λ (k : ℕ). take k (print_digits ds ++ t)) (sym (length-map ds digit ∙ e)) ∙ take-front (print_digits ds) t

printed_length : (ds : List Bool) (t : List ℕ) → length (print_digits ds ++ t) ≡ length ds + length t
unfolding print_digits
printed_length ds t = length-append (print_digits ds) t ∙ ap (λ (k : ℕ). k + length t) (length-map ds digit)

module _ (l : List ℕ) (at n : ℕ) where
  abbrev ends : math.Option (List Bool)
  ends = whole (closed (read_digits n (drop at l)))

  pub no_digits : bad ≡ eat_digits n (drop at l) → none ≡ ends
  unfolding eat_digits
  no_digits e = sym (ap (λ (r : Read (List Bool)). whole (closed r)) (digits_bad (read_digits n (drop at l)) e))

  module _ {c : Cursor} (h : At l tt c (eat_digits n (drop at l))) where
    there : (ds : List Bool) × (read_digits n (drop at l) ≡ found ds (from l c))
    unfolding eat_digits
    there = digits_there (read_digits n (drop at l)) (from l c) h.is

    ends_by : ends ≡ whole (after (eat (close_bracket ∷ []) (from l c)) (λ _ t. found there.0 t))
    ends_by = ap (λ (r : Read (List Bool)). whole (closed r)) there.1

    pub no_bracket : bad ≡ eat (close_bracket ∷ []) (from l c) → none ≡ ends
    no_bracket e = sym (ends_by ∙ ap (λ (r : Read (Unit {0})). whole (after r (λ _ t. found there.0 t))) (sym e))

    module _ {e : Cursor} (g : At l tt e (eat (close_bracket ∷ []) (from l c))) where
      ends_at : ends ≡ whole (found there.0 (from l e))
      ends_at = ends_by ∙ ap (λ (r : Read (Unit {0})). whole (after r (λ _ t. found there.0 t))) (sym g.is)

      pub more_left : leb (length l) e.at ≡ false → none ≡ ends
      more_left q =
          sym (ends_at ∙ ap (λ (t : List ℕ). whole (found there.0 t)) (drop-cons l e.at 0 (leb-false (length l) e.at q)))

      pub table-read : at ≤ length l → leb (length l) e.at ≡ true → TableRead l n at ends
      table-read start q =
          let ds = there.0 in
          let d = digits_print_of_read n (drop at l) ds (from l c) there.1 in
          let left : length (drop at l) ≡ length l - at = length-drop at l in
          let long : length (drop at l) ≡ length ds + length (from l c) = ap length d.is_split ∙ printed_length ds (from l c) in
          let many : length ds ≡ n = d.counted in
          record {
            digits = ds;
            is = sym (ends_at ∙ ap (λ (t : List ℕ). whole (found ds t)) (drop_of_length-le l (leb-true (length l) e.at q)));
            stands =
                record {
                  counted = many;
                  inside = omega arith;
                  printed = ap (take n) d.is_split ∙ printed_front ds (from l c) n many;
                };
          }
