-- `operator_word`: a word of more than 8 bytes is no operator, and another is what its number holds. Assumes nothing.
use native.Mathlib.Omega.{arith}
use Rattle.cursor.specs.OpenedLaws.{long_no_operator}
use Rattle.cursor.specs.NamedLaws.{word-length, operator-held}
use Rattle.cursor.proofs.operator_word.Goals as goal

pub returns-then-e-a-gt-MAX_NAME : goal.returns-then-e-a-gt-MAX_NAME
returns-then-e-a-gt-MAX_NAME c = long_no_operator _ (rw (word-length _ _ _ c.requires) (omega arith))

pub returns : goal.returns
returns c = operator-held _ _ _ c.requires _ (omega arith) c.packed.ensures
    c.as_operator.result c.as_operator.ensures
