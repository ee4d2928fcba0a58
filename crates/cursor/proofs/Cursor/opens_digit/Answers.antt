-- `Cursor::opens_digit`: 0, 1, or another digit. Assumes nothing.
use Rattle.cursor.specs.OpenedLaws.{zero_opened, one_opened, digit_bad}
use Rattle.cursor.proofs.Cursor.opens_digit.Goals as goal

pub returns-in-Some : goal.returns-in-Some
returns-in-Some c = zero_opened _ _ c.requires c.in-Some.next c.in-Some.ensures

pub returns-in_err-next : goal.returns-in_err-next
returns-in_err-next c = rw c.from_residual.ensures (digit_bad _ c.requires c.in_default.ensures c.in_err-next.ensures)

pub returns : goal.returns
returns c = one_opened _ _ c.requires c.in_ok-next.next c.in_ok-next.ensures
