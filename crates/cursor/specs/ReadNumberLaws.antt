-- A number is read where its digits end: they are the longest part of digits, their value is built up one digit after
-- another, and k digits stay below 10 ^ k. Assumes nothing.
use Rattle.std.specs.Prelude.{◌≡◌, Bool, true, false, not, ◌&&◌, List, [], ◌∷◌, ℕ, zero, suc, ◌+◌, ◌-◌, ◌*◌, ◌^◌, ◌≤◌, ◌<◌, eqb, leb, drop}
use Rattle.std.proofs.Math.Path.{refl, ap}
use Rattle.std.proofs.Common.{sym, ◌∙◌, pow-suc, add-one, length-drop, drop-drop, below_more}
use Rattle.std.proofs.Math.Nat.{pow-le-pow_right}
use native.Mathlib.Omega.{arith}
use Rattle.std.proofs.Math.ListN.{length, get_or, take}
use Rattle.std.proofs.Math.Seq.{drop-cons, get_or-take, get_or-drop}
use borrow.Author.Tests.{le-leb, lt-leb, leb-true}
use Rattle.bits.specs.LogicLaws.{and_right}
use Rattle.text.specs.Bytes.{bad}
use Rattle.text.specs.Number.{numeral, numerals, after_numerals, value_from, no_leading_zero, is_number_of, read_number_of}
use Rattle.cursor.specs.declared.Cursor.{Cursor}
use Rattle.cursor.specs.Item.{At}
use Rattle.cursor.specs.PartLaws.{part_length, part-cons}
use Rattle.cursor.specs.NumeralsEnd.{Numerals, NumeralsEnd}

-- ---- the digits at the front of a text
longest : (t : List ℕ) (k : ℕ)
    → k ≤ length t → ((j : ℕ) → j < k → numeral (get_or t j 0) ≡ true)
    → (k < length t → numeral (get_or t k 0) ≡ false) → (take k t ≡ numerals t) × (drop k t ≡ after_numerals t)
unfolding numerals after_numerals
longest [] zero h all stop = (refl, refl)
longest [] (suc k) h all stop = absurd (omega arith)
longest (b ∷ t) zero h all stop = let e = stop (omega arith) in (rw e refl, rw e refl)
longest (b ∷ t) (suc k) h all stop =
    let e : numeral b ≡ true = all 0 (omega arith) in
    let r = longest t k (omega arith) (λ j l. all (suc j) (omega arith)) (λ l. stop (omega arith)) in
    (rw (e, ← r.0) refl, rw (e, ← r.1) refl)

pub numerals_none : (s : List ℕ) (at : ℕ) → at ≤ length s → Numerals s at at
numerals_none s at h = record { after-start = omega arith; inside = h; each = λ k l g. absurd (omega arith) }

pub numerals_more : (s : List ℕ) (at e : ℕ)
    → Numerals s at e → e < length s → numeral (get_or s e 0) ≡ true
    → Numerals s at (e + 1)
numerals_more s at e n h b =
    record { after-start = omega arith; inside = omega arith; each = below_more _ e n.each (λ g. b) }

module _ (s : List ℕ) (at e : ℕ) (n : NumeralsEnd s at e) where
  parts : (take (e - at) (drop at s) ≡ numerals (drop at s)) × (drop (e - at) (drop at s) ≡ after_numerals (drop at s))
  parts =
      let size : length (drop at s) ≡ length s - at = length-drop at s in
      let end : at + (e - at) ≡ e = omega arith in
      longest (drop at s) (e - at) (omega arith)
      (λ j l. rw (get_or-drop at s j 0) (n.numerals.each (at + j) (omega arith) (omega arith)))
      (λ l. rw (get_or-drop at s (e - at) 0, end) (n.stops (omega arith)))

  numerals_are : take (e - at) (drop at s) ≡ numerals (drop at s)
  numerals_are = parts.0

  numerals-rest : drop e s ≡ after_numerals (drop at s)
  numerals-rest =
      let end : at + (e - at) ≡ e = omega arith in
      rw end at (sym (drop-drop (e - at) at s) ∙ parts.1)

-- ---- their value
pub record Valued (s : List ℕ) (a e i n : ℕ) : Type 0 where
  pub after-start : a ≤ i
  pub before_end : i ≤ e
  pub small : n < 10 ^ (i - a)
  pub value : value_from 0 (take (e - a) (drop a s)) ≡ value_from n (take (e - i) (drop i s))

pub valued_none : (s : List ℕ) (a e : ℕ) → a ≤ e → Valued s a e a 0
valued_none s a e h =
    let z : a - a ≡ 0 = omega arith in
    record { after-start = omega arith; before_end = h; small = rw z (omega arith); value = refl }

-- k digits are below 10 ^ k
pub valued_small : (k : ℕ) (s : List ℕ) (a e i n : ℕ) → Valued s a e i n → i ≤ a + k → n < 10 ^ k
valued_small k s a e i n v h =
    let few : i - a ≤ k = omega arith in
    let p : 10 ^ (i - a) ≤ 10 ^ k = pow-le-pow_right (omega arith) few in
    omega arith

pub valued_more : (s : List ℕ) (a e i n d : ℕ)
    → Valued s a e i n → i < e → e ≤ length s → d ≡ get_or s i 0 - 0x30
    → d < 10 → Valued s a e (i + 1) (n * 10 + d)
unfolding value_from
valued_more s a e i n d v h g b l =
    let k : i + 1 - a ≡ suc (i - a) = omega arith in
    let p : 10 ^ (i + 1 - a) ≡ 10 ^ (i - a) * 10 = rw k (pow-suc 10 (i - a)) in
    record {
      after-start = omega arith;
      before_end = omega arith;
      small = omega arith;
      value = v.value ∙ rw (part-cons s i e h g, add-one, b) refl;
    }

pub valued_all : (s : List ℕ) (a e i n : ℕ) → Valued s a e i n → e ≤ i → n ≡ value_from 0 (take (e - a) (drop a s))
unfolding value_from
valued_all s a e i n v h =
    let z : e - i ≡ 0 = omega arith in
    sym (v.value ∙ rw z refl)

-- ---- whether they are a number
never : (a b : Bool) → b ≡ false → false ≡ a && b
never true b e = sym e
never false b e = refl

by_first : (k : ℕ) (ds : List ℕ) → 1 < length ds → length ds ≤ k → not (eqb (get_or ds 0 0) 0x30) ≡ is_number_of k ds
unfolding is_number_of
by_first k [] h g = absurd (omega arith)
by_first k (d ∷ []) h g = absurd (omega arith)
by_first k (d ∷ e ∷ ds) h g = rw (le-leb (length (d ∷ e ∷ ds)) k g) (and_true (not (eqb d 0x30)))
  where
    and_true : (a : Bool) → a ≡ a && true
    and_true true = refl
    and_true false = refl

module _ (k : ℕ) (s : List ℕ) (a e : ℕ) (h : a ≤ e) (g : e ≤ length s) where
  pub number_short : (m : ℕ) → k ≤ m → is_number_of k (take (e - a) (drop a s)) ≡ true → e ≤ a + m
  unfolding is_number_of
  number_short m f t =
      let ds = take (e - a) (drop a s) in
      let l : length ds ≤ k = leb-true _ _ (and_right (no_leading_zero ds) (leb (length ds) k) t) in
      omega (arith, part_length s a e h g)

  pub no_digits : e - a ≡ 0 → false ≡ is_number_of k (take (e - a) (drop a s))
  unfolding is_number_of
  no_digits z = rw z refl

  pub one-digit : e - a ≡ 1 → e - a ≤ k → true ≡ is_number_of k (take (e - a) (drop a s))
  unfolding is_number_of
  one-digit z m = rw (z, drop-cons s a 0 (omega arith), le-leb 1 k (omega arith)) refl

  pub many_digits : k < e - a → false ≡ is_number_of k (take (e - a) (drop a s))
  unfolding is_number_of
  many_digits l = never (no_leading_zero (take (e - a) (drop a s))) _ (rw (part_length s a e h g) (lt-leb (e - a) k l))

  pub some_digits : 1 < e - a → e - a ≤ k → not (eqb (get_or s a 0) 0x30) ≡ is_number_of k (take (e - a) (drop a s))
  unfolding is_number_of
  some_digits l m =
      let ds = take (e - a) (drop a s) in
      let z : a + 0 ≡ a = omega arith in
      let f : get_or ds 0 0 ≡ get_or s a 0 = get_or-take (e - a) (drop a s) 0 0 (omega arith) ∙ get_or-drop a s 0 0 ∙ ap (λ (i : ℕ). get_or s i 0) z in
      rw f at (by_first k ds (omega (arith, part_length s a e h g)) (omega (arith, part_length s a e h g)))

-- ---- the number
pub number_there : (k : ℕ) (s : List ℕ) (at e n : ℕ) (c : Cursor)
    → NumeralsEnd s at e → is_number_of k (take (e - at) (drop at s)) ≡ true
    → n ≡ value_from 0 (take (e - at) (drop at s)) → c.at ≡ e
    → At s n c (read_number_of k (drop at s))
unfolding read_number_of
number_there k s at e n c d t v p =
    record {
      inside = omega arith;
      is = rw (← numerals_are s at e d, t, v, p, ← numerals-rest s at e d) refl;
    }

pub no_number : (k : ℕ) (s : List ℕ) (at e : ℕ)
    → NumeralsEnd s at e → is_number_of k (take (e - at) (drop at s)) ≡ false
    → bad ≡ read_number_of k (drop at s)
unfolding read_number_of
no_number k s at e d t = rw (← numerals_are s at e d, t) refl
