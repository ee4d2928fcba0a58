-- `is_operator_word`: the four numbers hold the operator words. Assumes nothing.
use Rattle.std.proofs.Common.{◌∙◌}
use Rattle.names.proofs.Operators.{is_operator, single}
use Rattle.names.proofs.is_operator_word.Goals as goal

pub returns-then-w-lt-BASE : goal.returns-then-w-lt-BASE
returns-then-w-lt-BASE c = single _ c.if-w-lt-BASE.true

pub returns : goal.returns
returns c = c.is_some.ensures ∙ is_operator _ _ c.find.ensures
