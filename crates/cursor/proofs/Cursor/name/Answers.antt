-- `Cursor::name`: a word without a letter first is no name. Assumes nothing.
use Rattle.std.proofs.Common.{◌∙◌}
use Rattle.cursor.specs.NamedLaws.{no_letter_bad}
use Rattle.cursor.proofs.Cursor.name.Goals as goal

pub returns-in_default : goal.returns-in_default
returns-in_default c = no_letter_bad _ (λ q. c.in_default.not-Letter (c.kind.ensures ∙ q))
