-- `Cursor::opens_name`: a name there opens a formula, and no name opens none. Assumes nothing.
use Rattle.cursor.specs.OpenedLaws.{name_opened, name_bad}
use Rattle.cursor.proofs.Cursor.opens_name.Goals as goal

pub returns-in_err-v : goal.returns-in_err-v
returns-in_err-v c = rw c.from_residual.ensures (name_bad _ c.requires.1 c.in_err-v.ensures)

pub returns : goal.returns
returns c = name_opened _ _ _ _ c.requires.1 c.in_ok-v.ensures
