-- `first_of`: each arm is a range of bytes or what stands between two. Assumes nothing.
use native.Mathlib.Omega.{arith}
use Rattle.names.specs.ByteLaws.{letter-small, letter-capital, letter_below, letter_amid, letter_above, numeral_below, numeral_above}
use Rattle.cursor.specs.FirstLaws.{first_letter, first_digit, first_bracket, first_other}
use Rattle.cursor.proofs.first_of.Goals as goal

pub returns-in-40 : goal.returns-in-40
returns-in-40 c = first_bracket _ c.in-40.is

pub returns-in-48-to-57 : goal.returns-in-48-to-57
returns-in-48-to-57 c = first_digit _ (omega arith) (omega arith)

pub returns-in-97-to-122 : goal.returns-in-97-to-122
returns-in-97-to-122 c = first_letter _ (letter-capital _ (omega arith) (omega arith))

pub returns-in-97-to-122-2 : goal.returns-in-97-to-122-2
returns-in-97-to-122-2 c = first_letter _ (letter-small _ (omega arith) (omega arith))

pub returns-in_default : goal.returns-in_default
returns-in_default c = first_other _ (letter_below _ (omega arith)) (numeral_below _ (omega arith)) (omega arith)

pub returns-in_default-2 : goal.returns-in_default-2
returns-in_default-2 c =
    first_other _ (letter_below _ (omega arith)) (numeral_above _ (omega arith)) (omega arith)

pub returns-in_default-3 : goal.returns-in_default-3
returns-in_default-3 c =
    first_other _ (letter_amid _ (omega arith) (omega arith)) (numeral_above _ (omega arith)) (omega arith)

pub returns-in_default-4 : goal.returns-in_default-4
returns-in_default-4 c =
    first_other _ (letter_above _ (omega arith)) (numeral_above _ (omega arith)) (omega arith)
