-- The words of a line that a word begins: that word, and the words of what follows it. Assumes nothing.
use Rattle.std.specs.Prelude.{◌≡◌, refl, true, false, List, [], ◌∷◌, ◌++◌, ℕ, ◌<◌}
use Rattle.std.proofs.Common.{sym, ap, ◌∙◌, append-nil, arith, ne_eqb}
use Rattle.bits.specs.Logic.{pick}
use Rattle.bits.specs.LogicLaws.{true_false, and_left, and_right}
use Rattle.text.specs.Bytes.{space}
use Rattle.text.specs.Line.{onto}
use Rattle.text.specs.SolidLaws.{solid_first, solid-others}
use Rattle.names.specs.Names.{print_names}
use Rattle.blif.specs.Words.{tab, blank, goes_on, words}
use Rattle.blif.specs.IsWord.{is_word, all_words}

above_no_blank : (b : ℕ) → space < b → blank b ≡ false
unfolding blank
above_no_blank b l = rw (ne_eqb b space (λ e. omega arith), ne_eqb b tab (λ e. omega arith)) refl

words_more : (b : ℕ) (s : List ℕ)
    → words (b ∷ s) ≡ pick (blank b) (words s) (pick (goes_on s) (onto b (words s)) ((b ∷ []) ∷ words s))
unfolding words
words_more b s = refl

-- the last byte of a word, and an earlier one
last_byte : (b : ℕ) (s : List ℕ) → blank b ≡ false → goes_on s ≡ false → words (b ∷ s) ≡ (b ∷ []) ∷ words s
last_byte b s h g = rw (words_more b s, h, g) refl

earlier_byte : (b c : ℕ) (s w : List ℕ) (ws : List (List ℕ))
    → blank b ≡ false
    → blank c ≡ false
    → words (c ∷ s) ≡ w ∷ ws
    → words (b ∷ c ∷ s) ≡ (b ∷ w) ∷ ws
earlier_byte b c s w ws h k e = rw (words_more b (c ∷ s), h, k, e) refl

words-front : (w s : List ℕ) → is_word w ≡ true → goes_on s ≡ false → words (w ++ s) ≡ w ∷ words s
words-front [] s h g = absurd (true_false (sym h))
words-front (b ∷ []) s h g = last_byte b s (above_no_blank b (solid_first b [] h)) g
words-front (b ∷ c ∷ w) s h g =
    let others = solid-others b (c ∷ w) h in
    earlier_byte b c (w ++ s) (c ∷ w) (words s)
    (above_no_blank b (solid_first b (c ∷ w) h))
    (above_no_blank c (solid_first c w others))
    (words-front (c ∷ w) s others g)

words_of_word : (w : List ℕ) → is_word w ≡ true → words w ≡ w ∷ []
unfolding words
words_of_word w h = ap words (sym (append-nil w)) ∙ words-front w [] h refl

pub words-spaced : (w s : List ℕ) → is_word w ≡ true → words (w ++ (space ∷ s)) ≡ w ∷ words s
unfolding words blank
words-spaced w s h = words-front w (space ∷ s) h refl

pub words_of_names : (w : List ℕ) (ns : List (List ℕ))
    → is_word w ≡ true
    → all_words ns ≡ true
    → words (w ++ print_names ns) ≡ w ∷ ns
unfolding print_names all_words
words_of_names w [] h k = ap words (append-nil w) ∙ words_of_word w h
words_of_names w (n ∷ ns) h k =
    words-spaced w (n ++ print_names ns) h
    ∙ ap (λ (vs : List (List ℕ)). w ∷ vs)
    (words_of_names n ns (and_left (is_word n) (all_words ns) k) (and_right (is_word n) (all_words ns) k))
