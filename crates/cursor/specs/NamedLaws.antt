-- A name is read where its word ends: the word's length, its first letter and whether it is an operator word decide.
-- Assumes nothing.
use Rattle.std.specs.Prelude.{◌≡◌, true, false, List, ℕ, ◌-◌, ◌≤◌, ◌<◌, length, take, drop, Option}
use Rattle.std.proofs.Common.{sym, ap, ◌∙◌, arith}
use Rattle.limits.specs.Limits.{max_name}
use Rattle.text.specs.Bytes.{bad}
use Rattle.names.specs.Name.{word, operator, among, operator_words, read_name}
use Rattle.names.specs.Pack.{pack, name_of}
use Rattle.names.specs.Word.{WordEnd, operator_of}
use Rattle.names.specs.NameLaws.{word_name_bytes, word_back, read_name_found, read_name_bad}
use Rattle.names.specs.IsNameLaws.{is_name_lem, no_letter_no_name, long_no_name, operator_no_name}
use Rattle.names.specs.declared.Operator.{Operator}
use Rattle.cursor.specs.declared.Cursor.{Cursor}
use Rattle.cursor.specs.declared.First.TheVariants.{Letter}
use Rattle.cursor.specs.First.{first_at}
use Rattle.cursor.specs.FirstLaws.{letter_starts, no_letter_starts}
use Rattle.cursor.specs.Item.{At}
use Rattle.cursor.specs.PartLaws.{part_length}

pub no_letter_bad : (t : List ℕ) → (first_at t ≡ Letter → ⊥) → bad ≡ read_name t
no_letter_bad t h = sym (read_name_bad t (no_letter_no_name (word t) (no_letter_starts t h)))

module _ (s : List ℕ) (at e : ℕ) (w : WordEnd s at e) where
  pub word-length : length (word (drop at s)) ≡ e - at
  word-length = sym (ap length w.is_word) ∙ part_length s at e w.after-start w.inside

  pub long_bad : max_name < e - at → bad ≡ read_name (drop at s)
  long_bad h = sym (read_name_bad (drop at s) (long_no_name (word (drop at s)) (rw word-length h)))

  module _ (v : ℕ) (h : e - at ≤ max_name) (p : v ≡ pack (take (e - at) (drop at s))) where
    -- a word of at most max_name bytes is what its number holds
    word_held : name_of v ≡ word (drop at s)
    word_held = ap name_of (p ∙ ap pack w.is_word) ∙ word_back (drop at s) (rw word-length h)

    pub operator-held : (o : Option Operator) → operator_of o ≡ operator (name_of v) → operator_of o ≡ operator (word (drop at s))
    operator-held o q = q ∙ ap operator word_held

    pub named_there : (c : Cursor)
        → first_at (drop at s) ≡ Letter → among (name_of v) operator_words ≡ false
        → c.at ≡ e → At s (name_of v) c (read_name (drop at s))
    named_there c f q k =
        let t = drop at s in
        let n = is_name_lem (word t) (letter_starts t f) (word_name_bytes t) (rw word-length h) (rw word_held at q) in
        record {
          inside = omega (arith, w.inside);
          is = rw (word_held, k, w.is_rest) (sym (read_name_found (drop at s) n));
        }

    pub operator_bad : among (name_of v) operator_words ≡ true → bad ≡ read_name (drop at s)
    operator_bad q = sym (read_name_bad (drop at s) (operator_no_name (word (drop at s)) (rw word_held at q)))
