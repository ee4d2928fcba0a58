-- Digits at a place, as the library's test finds them. Assumes nothing.
use Rattle.std.specs.Prelude.{◌≡◌, refl, true, List, ℕ, ◌+◌, ◌-◌, ◌*◌, ◌≤◌, ◌<◌, length, get_or, take, drop}
use Rattle.std.specs.Char.{is_ascii_digit}
use Rattle.std.specs.List.{take_while, prefix_len}
use Rattle.std.proofs.Common.{sym, ap, ◌∙◌, arith, length-drop}
use Rattle.std.proofs.Math.Seq.{get_or-take, get_or-drop}
use Rattle.std.proofs.lemmas.List.Folds.{length-prefix_len}
use Rattle.std.proofs.lemmas.List.Sums.{prefix_len-le-length, prefix_len_passes, prefix_len_stops}
use Rattle.text.specs.Number.{numeral, value_from}
use Rattle.text.specs.NumeralLaws.{numeral-low, numeral_high}
use Rattle.cursor.specs.PartLaws.{part_length}
use Rattle.cursor.specs.ReadNumberLaws.{Valued, valued_more, valued_all}
use Rattle.cursor.specs.NumeralsEnd.{Numerals, NumeralsEnd}

test_is : (b : ℕ) → is_ascii_digit b ≡ numeral b
unfolding numeral
test_is b = refl

pub numerals_end_at : (s : List ℕ) (at n : ℕ) → at ≤ length s → n ≡ length (take_while is_ascii_digit (drop at s)) → NumeralsEnd s at (at + n)
numerals_end_at s at n h e =
    let t = drop at s in
    let k : n ≡ prefix_len is_ascii_digit t = e ∙ length-prefix_len is_ascii_digit t in
    let few = prefix_len-le-length is_ascii_digit t in
    let size = length-drop at s in
    record {
      numerals = record {
        after-start = omega arith;
        inside = omega arith;
        each = λ j l g.
            let here : at + (j - at) ≡ j = omega arith in
            sym (test_is (get_or s j 0))
            ∙ ap is_ascii_digit (sym (get_or-drop at s (j - at) 0 ∙ ap (λ (i : ℕ). get_or s i 0) here))
            ∙ prefix_len_passes is_ascii_digit t (j - at) 0 (omega arith);
      };
      stops = λ l.
          sym (test_is (get_or s (at + n) 0))
          ∙ ap is_ascii_digit (sym (get_or-drop at s n 0) ∙ ap (λ (i : ℕ). get_or t i 0) k)
          ∙ prefix_len_stops is_ascii_digit t 0 (omega arith);
    }

-- ---- the digits of a part, one after another
module _ (s : List ℕ) (a e i : ℕ) (n : Numerals s a e) (l : i < length (take (e - a) (drop a s))) where
  within : a + i < e
  within = omega (arith, part_length s a e n.after-start n.inside)

  digit_there : get_or (take (e - a) (drop a s)) i 0 ≡ get_or s (a + i) 0
  digit_there = get_or-take (e - a) (drop a s) i 0 (omega (arith, within)) ∙ get_or-drop a s i 0

  is_digit : numeral (get_or (take (e - a) (drop a s)) i 0) ≡ true
  is_digit = ap numeral digit_there ∙ n.each (a + i) within (omega arith)

  pub digit_low : 0x30 ≤ get_or (take (e - a) (drop a s)) i 0
  digit_low = numeral-low _ is_digit

  pub one_more : (m d : ℕ) → Valued s a e (a + i) m → d ≡ get_or (take (e - a) (drop a s)) i 0 - 0x30 → Valued s a e (a + (i + 1)) (m * 10 + d)
  one_more m d v k =
      let next : a + (i + 1) ≡ a + i + 1 = omega arith in
      let same : d ≡ get_or s (a + i) 0 - 0x30 = k ∙ ap (λ (b : ℕ). b - 0x30) digit_there in
      rw next (valued_more s a e (a + i) m d v within n.inside same (omega (arith, k, numeral_high _ is_digit)))

pub all_digits : (s : List ℕ) (a e i m : ℕ) → Numerals s a e → Valued s a e (a + i) m → length (take (e - a) (drop a s)) ≤ i → m ≡ value_from 0 (take (e - a) (drop a s))
all_digits s a e i m n v h = valued_all s a e (a + i) m v (omega (arith, part_length s a e n.after-start n.inside))
