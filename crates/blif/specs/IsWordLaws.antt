-- Names, cell names and digits are words. Assumes nothing.
use Rattle.std.specs.Prelude.{◌≡◌, refl, Bool, true, List, [], ◌∷◌, ◌++◌, map, ℕ}
use Rattle.std.proofs.Common.{sym}
use Rattle.bits.specs.LogicLaws.{true_false, and_left, and_right, and_both}
use Rattle.text.specs.Solid.{solid}
use Rattle.text.specs.SolidLaws.{print_solid}
use Rattle.names.specs.Name.{Name, is_name}
use Rattle.names.specs.Names.{all_names}
use Rattle.names.specs.IsNameLaws.{name_starts, name-solid}
use Rattle.network.specs.Printer.{print_digits}
use Rattle.network.specs.DigitsLaws.{digits_solid}
use Rattle.blif.specs.Printer.{cell_name}
use Rattle.blif.specs.IsWord.{is_word, all_words}

-- ---- names
name-word : (n : Name) → is_name n ≡ true → is_word n ≡ true
name-word [] h = absurd (true_false (sym (name_starts [] h)))
name-word (b ∷ n) h = name-solid (b ∷ n) h

pub names_words : (ns : List Name) → all_names ns ≡ true → all_words ns ≡ true
unfolding all_names all_words
names_words [] h = refl
names_words (n ∷ ns) h =
    and_both (is_word n) (all_words ns)
    (name-word n (and_left (is_name n) (all_names ns) h))
    (names_words ns (and_right (is_name n) (all_names ns) h))

pub words_append : (vs ws : List (List ℕ)) → all_words vs ≡ true → all_words ws ≡ true → all_words (vs ++ ws) ≡ true
unfolding all_words
words_append [] ws h k = k
words_append (v ∷ vs) ws h k =
    and_both (is_word v) (all_words (vs ++ ws))
    (and_left (is_word v) (all_words vs) h)
    (words_append vs ws (and_right (is_word v) (all_words vs) h) k)

pub word_after : (ws : List (List ℕ)) (w : List ℕ)
    → all_words ws ≡ true
    → is_word w ≡ true
    → all_words (ws ++ (w ∷ [])) ≡ true
unfolding all_words
word_after ws w h k = words_append ws (w ∷ []) h (and_both (is_word w) true k refl)

-- ---- cell names
pub cell_word : (i : ℕ) → is_word (cell_name i) ≡ true
unfolding cell_name solid
cell_word i = print_solid i

pub cells-words : (is : List ℕ) → all_words (map cell_name is) ≡ true
unfolding all_words
cells-words [] = refl
cells-words (i ∷ is) = and_both (is_word (cell_name i)) (all_words (map cell_name is)) (cell_word i) (cells-words is)

-- ---- digits
pub digits_word : (v : Bool) (vs : List Bool) → is_word (print_digits (v ∷ vs)) ≡ true
unfolding print_digits
digits_word v vs = digits_solid (v ∷ vs)
