use Rattle.std.proofs.Common.{◌∙◌}
use Rattle.text.proofs.Texts.{same_is}
use Rattle.text.proofs.equal.Goals as goal

pub returns : goal.returns
returns c = c.eq.ensures ∙ same_is _ _
