-- A line with a number: what the word, the number and the line's end come to. Assumes nothing.
use Rattle.std.specs.Prelude.{◌≡◌, refl, Bool, List, [], ◌∷◌, ℕ, ◌≤◌, ◌<◌, leb, length, drop, Some, None}
use Rattle.std.specs.Prelude as code
use Rattle.std.proofs.Common.{sym, subst, ◌∙◌, arith, length-drop, drop_of_length-le, le-leb}
use Rattle.std.proofs.Math.Path.{ap}
use Rattle.std.proofs.Math.Option.{Option, some, none}
use Rattle.std.proofs.lemmas.Bool.{lt-leb}
use Rattle.bits.specs.Logic.{pick}
use Rattle.limits.specs.Limits.{max_pla_digits}
use Rattle.text.specs.Bytes.{Read, found, bad, after, eat, whole}
use Rattle.text.specs.Number.{read_number_of}
use Rattle.cursor.specs.Item.{At, NumberIs}
use Rattle.cursor.specs.declared.Cursor.{Cursor}
use Rattle.platext.specs.Lines.{at_least, read_count}
use Rattle.platext.specs.Reading.{CountIs}

-- the number of a line after a word
abbrev pub number_after : Read (Unit {0}) → Option ℕ
number_after r = whole (after r (λ _ s. read_number_of max_pla_digits s))

whole_at : (s t : List ℕ) (n : ℕ) → t ≡ [] → whole (found n t) ≡ some n
whole_at s t n e = ap (λ (u : List ℕ). whole (found n u)) e

whole_part : (t : List ℕ) (n : ℕ) → 0 < length t → whole (found n t) ≡ none
whole_part [] n h = absurd (omega arith)
whole_part (b ∷ t) n h = refl

module _ (w l : List ℕ) where
  pub no_count_word : bad ≡ eat w l → number_after (eat w l) ≡ none
  no_count_word e = ap number_after (sym e)

  module _ {c : Cursor} (h : At l tt c (eat w l)) where
    number_there : number_after (eat w l) ≡ whole (read_number_of max_pla_digits (drop c.at l))
    number_there = ap number_after (sym h.is)

    pub no_number : bad ≡ read_number_of max_pla_digits (drop c.at l) → number_after (eat w l) ≡ none
    no_number e = number_there ∙ ap whole (sym e)

    is_number : {n : ℕ} {d : Cursor} (v : code.Option (ℕ × Cursor)) → NumberIs l v (read_number_of max_pla_digits (drop c.at l)) → v ≡ Some (n, d)
        → found n (drop d.at l) ≡ read_number_of max_pla_digits (drop c.at l)
    is_number {n} {d} v k f =
        let a : At l n d (read_number_of max_pla_digits (drop c.at l))
        = subst (λ (x : code.Option (ℕ × Cursor)). NumberIs l x (read_number_of max_pla_digits (drop c.at l))) f k in
        a.is

    module _ {n : ℕ} {d : Cursor} (k : At l n d (read_number_of max_pla_digits (drop c.at l))) where
      pub whole-count : length l ≤ d.at → number_after (eat w l) ≡ some n
      whole-count g = number_there ∙ ap whole (sym k.is) ∙ whole_at l (drop d.at l) n (drop_of_length-le l {i = d.at} g)

      pub longer-count : d.at < length l → number_after (eat w l) ≡ none
      longer-count g = number_there ∙ ap whole (sym k.is) ∙ whole_part (drop d.at l) n (omega (arith, length-drop d.at l))

-- ---- what the code answers of a number, by the definitions
number_is : (x : Option ℕ) (r : code.Option ℕ) → CountIs x r → (n : ℕ) → r ≡ Some n → x ≡ some n
number_is x r k n e = subst (λ (o : code.Option ℕ). CountIs x o) e k

bad_is : (x : Option ℕ) (r : code.Option ℕ) → CountIs x r → r ≡ None → x ≡ none
bad_is x r k e = subst (λ (o : code.Option ℕ). CountIs x o) e k

-- ---- a number that is at least `low`
module _ (w : List ℕ) (low : ℕ) (l : List ℕ) where
  pub count_bad : number_after (eat w l) ≡ none → read_count w low l ≡ none
  unfolding read_count
  count_bad e = ap (at_least low) e

  module _ (n : ℕ) (e : number_after (eat w l) ≡ some n) where
    by_number : read_count w low l ≡ pick (leb low n) (some n) none
    unfolding read_count
    by_number = ap (at_least low) e

    pub count_low : n < low → read_count w low l ≡ none
    count_low g = by_number ∙ ap (λ (b : Bool). pick b (some n) none) (lt-leb low n g)

    pub count_there : low ≤ n → read_count w low l ≡ some n
    count_there g = by_number ∙ ap (λ (b : Bool). pick b (some n) none) (le-leb low n g)
