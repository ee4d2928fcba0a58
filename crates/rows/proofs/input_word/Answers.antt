-- `input_word`: one law for each of its four answers. Assumes nothing.
use mathlib.Core.Path.{sym, ◌∙◌}
use Rattle.rows.proofs.Masks.{low_word, high_word, high_none, past_word}
use Rattle.rows.proofs.input_word.Goals as goal

pub returns-then-p-lt-WORD_DIGITS : goal.returns-then-p-lt-WORD_DIGITS
returns-then-p-lt-WORD_DIGITS c = low_word _ _ c.if-p-lt-WORD_DIGITS.true

pub returns-then-p-ge-MAX_INPUTS : goal.returns-then-p-ge-MAX_INPUTS
returns-then-p-ge-MAX_INPUTS c = past_word _ _ c.if-p-ge-MAX_INPUTS.true c.requires

pub returns-then-has : goal.returns-then-has
returns-then-has c = high_word _ _ c.if-p-lt-WORD_DIGITS.false (sym c.has.ensures ∙ c.if-has.true)

pub returns : goal.returns
returns c = high_none _ _ c.if-p-lt-WORD_DIGITS.false (sym c.has.ensures ∙ c.if-has.false)
