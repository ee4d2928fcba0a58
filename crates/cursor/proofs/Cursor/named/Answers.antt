-- `Cursor::named`: the word is too long, an operator word, or a name. Assumes nothing.
use mathlib.Core.Path.{refl, sym, ◌∙◌}
use native.Mathlib.Omega.{arith}
use Rattle.cursor.specs.NamedLaws.{long_bad, named_there, operator_bad}
use Rattle.cursor.proofs.Cursor.named.Goals as goal

pub returns-then-e-self-gt-MAX_NAME : goal.returns-then-e-self-gt-MAX_NAME
returns-then-e-self-gt-MAX_NAME c = long_bad _ _ _ c.word_end-e.ensures (omega arith)

pub returns-then-is_operator_word : goal.returns-then-is_operator_word
returns-then-is_operator_word c = operator_bad _ _ _ c.word_end-e.ensures _ (omega arith) c.packed-v.ensures
    (sym c.is_operator_word.ensures ∙ c.if-is_operator_word.true)

pub returns : goal.returns
returns c = named_there _ _ _ c.word_end-e.ensures _ (omega arith) c.packed-v.ensures _ c.requires.1
    (sym c.is_operator_word.ensures ∙ c.if-is_operator_word.false)
    refl
