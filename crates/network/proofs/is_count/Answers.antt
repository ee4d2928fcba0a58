-- `is_count`: the bytes are those that are printed. Assumes nothing.
use mathlib.Core.Path.{ap, ◌∙◌}
use Rattle.text.specs.Bytes.{same}
use Rattle.network.specs.HeadLaws.{count-bytes}
use Rattle.network.proofs.is_count.Goals as goal

pub returns : goal.returns
returns c = let a = c.args in
    c.equal.ensures ∙ ap (same a.l.now) (count-bytes a.u c.requires)
