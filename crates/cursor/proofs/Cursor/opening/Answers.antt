-- `Cursor::opening`: the first byte says which kind is read. Assumes nothing.
use mathlib.Core.Path.{sym, ◌∙◌}
use Rattle.cursor.specs.OpenedLaws.{opening_other}
use Rattle.cursor.proofs.Cursor.opening.Goals as goal

pub returns-in-Other : goal.returns-in-Other
returns-in-Other c = opening_other _ (sym c.kind.ensures ∙ c.in-Other.is)
