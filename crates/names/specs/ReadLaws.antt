-- A name is read exactly where it stands at the front of a text and no further byte of a name follows it.
-- Assumes nothing.
use Rattle.std.specs.Prelude.{◌≡◌, refl, Bool, true, false, List, [], ◌∷◌, ◌++◌, ℕ}
use Rattle.std.proofs.Common.{ap}
use Rattle.bits.specs.Logic.{pick}
use Rattle.bits.specs.LogicLaws.{and_left, and_right}
use Rattle.text.specs.Bytes.{found, space, close_bracket}
use Rattle.text.specs.Number.{numeral}
use Rattle.names.specs.Name.{Name, letter, name_byte, word, after_word, all_name_bytes, is_name, read_name}
use Rattle.names.specs.Front.{Stops, NameFront}
use Rattle.names.specs.IsNameLaws.{name-bytes}
use Rattle.names.specs.NameLaws.{read_name_word, read_name_parts}

pub space-stops : (s : List ℕ) → Stops (space ∷ s)
unfolding name_byte letter numeral
space-stops s = refl

pub bracket_stops : (s : List ℕ) → Stops (close_bracket ∷ s)
unfolding name_byte letter numeral
bracket_stops s = refl

-- ---- a name at the front is the word there
word-front : (n t : List ℕ) → all_name_bytes n ≡ true → Stops t → word (n ++ t) ≡ n
unfolding word
word-front [] [] e h = refl
word-front [] (b ∷ t) e h = rw h refl
word-front (b ∷ n) t e h =
    rw (and_left (name_byte b) (all_name_bytes n) e)
    (ap (λ (l : List ℕ). b ∷ l) (word-front n t (and_right (name_byte b) (all_name_bytes n) e) h))

after_word_front : (n t : List ℕ) → all_name_bytes n ≡ true → Stops t → after_word (n ++ t) ≡ t
unfolding after_word
after_word_front [] [] e h = refl
after_word_front [] (b ∷ t) e h = rw h refl
after_word_front (b ∷ n) t e h =
    rw (and_left (name_byte b) (all_name_bytes n) e) (after_word_front n t (and_right (name_byte b) (all_name_bytes n) e) h)

pub name_read_of_print : (n : Name) (t : List ℕ) → is_name n ≡ true → Stops t → read_name (n ++ t) ≡ found n t
unfolding read_name
name_read_of_print n t e h = rw (word-front n t (name-bytes n e) h, after_word_front n t (name-bytes n e) h, e) refl

-- ---- and the word at the front ends where the text stops
stops_by : (c : Bool) (b : ℕ) (s a : List ℕ) → name_byte b ≡ c → Stops a → Stops (pick c a (b ∷ s))
stops_by true b s a e h = h
stops_by false b s a e h = e

after_word_stops : (s : List ℕ) → Stops (after_word s)
unfolding after_word
after_word_stops [] = tt
after_word_stops (b ∷ s) = stops_by (name_byte b) b s (after_word s) refl (after_word_stops s)

pub name_print_of_read : (s : List ℕ) (n : Name) (t : List ℕ) → read_name s ≡ found n t → NameFront s n t
name_print_of_read s n t e =
    let p = read_name_parts s e in
    record { is_name_lem = p.0; is_split = p.1; stops = rw (read_name_word s e).2 at (after_word_stops s) }
