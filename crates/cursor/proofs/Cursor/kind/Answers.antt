-- `Cursor::kind`: the byte at the place decides, and nothing opens past the end. Assumes nothing.
use mathlib.Core.Path.{◌∙◌}
use Rattle.cursor.specs.FirstLaws.{first_inside, first_past}
use Rattle.cursor.proofs.Cursor.kind.Goals as goal

pub returns-then-self-s : goal.returns-then-self-s
returns-then-self-s c = c.first_of.ensures ∙ first_inside _ _ c.if-self-s.true

pub returns-else-self-s : goal.returns-else-self-s
returns-else-self-s c = first_past _ _ c.if-self-s.false
