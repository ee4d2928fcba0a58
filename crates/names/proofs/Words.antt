-- A word is the longest front of letters and digits, which the library's test finds. Assumes nothing.
use Rattle.std.specs.Prelude.{◌≡◌, refl, Bool, true, false, ◌||◌, cond, List, [], ◌∷◌, ℕ, suc, ◌+◌, ◌-◌, ◌≤◌, length, take, drop}
use Rattle.std.specs.Char.{is_ascii_alphanumeric}
use Rattle.std.specs.Int.{is_in_range}
use Rattle.std.specs.List.{take_while, prefix_len}
use Rattle.std.proofs.Common.{sym, ◌∙◌, arith, length-drop, drop-drop}
use Rattle.std.proofs.lemmas.List.Folds.{length-prefix_len}
use Rattle.std.proofs.lemmas.List.Sums.{prefix_len-le-length}
use Rattle.bits.specs.Logic.{pick}
use Rattle.names.specs.Name.{name_byte, letter, word, after_word}
use Rattle.names.specs.Word.{WordEnd}
use Rattle.text.specs.Number.{numeral}

any_order : (s c n : Bool) → (n || c) || s ≡ (s || c) || n
any_order true true true = refl
any_order true true false = refl
any_order true false true = refl
any_order true false false = refl
any_order false true true = refl
any_order false true false = refl
any_order false false true = refl
any_order false false false = refl

test_is : (b : ℕ) → is_ascii_alphanumeric b ≡ name_byte b
unfolding name_byte letter numeral
test_is b = any_order (is_in_range 97 122 b) (is_in_range 65 90 b) (is_in_range 48 57 b)

module _ (b : ℕ) (t : List ℕ) (k : ℕ) where
  by_first : (take k t ≡ word t) × (drop k t ≡ after_word t) → (p : Bool) → p ≡ name_byte b
      → (take (cond p (1 + k) 0) (b ∷ t) ≡ pick (name_byte b) (b ∷ word t) [])
      × (drop (cond p (1 + k) 0) (b ∷ t) ≡ pick (name_byte b) (after_word t) (b ∷ t))
  by_first h true e = let one : 1 + k ≡ suc k = omega arith in rw (one, ← e, ← h.0, ← h.1) (refl, refl)
  by_first h false e = rw (← e) (refl, refl)

front_is : (t : List ℕ) → (take (prefix_len is_ascii_alphanumeric t) t ≡ word t) × (drop (prefix_len is_ascii_alphanumeric t) t ≡ after_word t)
unfolding word after_word
front_is [] = (refl, refl)
front_is (b ∷ t) = by_first b t (prefix_len is_ascii_alphanumeric t) (front_is t) (is_ascii_alphanumeric b) (test_is b)

pub word_ends : (s : List ℕ) (at n : ℕ) → at ≤ length s → n ≡ length (take_while is_ascii_alphanumeric (drop at s)) → WordEnd s at (at + n)
word_ends s at n h e =
    let k : n ≡ prefix_len is_ascii_alphanumeric (drop at s) = e ∙ length-prefix_len is_ascii_alphanumeric (drop at s) in
    let few = prefix_len-le-length is_ascii_alphanumeric (drop at s) in
    let size = length-drop at s in
    let back : at + n - at ≡ n = omega arith in
    record {
      after-start = omega arith;
      inside = omega arith;
      is_word = rw (back, k) ((front_is (drop at s)).0);
      is_rest = sym (drop-drop n at s) ∙ rw k ((front_is (drop at s)).1);
    }
