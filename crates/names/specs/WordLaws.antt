-- Words, byte by byte: what a byte of names adds to the word at the front of a text, and where a word stops.
-- Assumes nothing.
use Rattle.std.specs.Prelude.{◌≡◌, refl, Bool, true, false, List, [], ◌∷◌, ℕ}
use Rattle.std.proofs.Math.Path.{ap}
use Rattle.bits.specs.Logic.{pick}
use Rattle.names.specs.Name.{name_byte, word, after_word}

module _ (b : ℕ) (s : List ℕ) where
  pub word_more : name_byte b ≡ true → word (b ∷ s) ≡ b ∷ word s
  unfolding word
  word_more e = ap (λ (t : Bool). pick t (b ∷ word s) []) e

  pub after_more : name_byte b ≡ true → after_word (b ∷ s) ≡ after_word s
  unfolding after_word
  after_more e = ap (λ (t : Bool). pick t (after_word s) (b ∷ s)) e

  pub word-stops : name_byte b ≡ false → word (b ∷ s) ≡ []
  unfolding word
  word-stops e = ap (λ (t : Bool). pick t (b ∷ word s) []) e

  pub after-stops : name_byte b ≡ false → after_word (b ∷ s) ≡ b ∷ s
  unfolding after_word
  after-stops e = ap (λ (t : Bool). pick t (after_word s) (b ∷ s)) e

pub word-empty : word [] ≡ []
unfolding word
word-empty = refl

pub after-empty : after_word [] ≡ []
unfolding after_word
after-empty = refl
