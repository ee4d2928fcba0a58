-- `ask_end`: question 3, by the count of the outputs. Assumes nothing.
use Rattle.sheet.specs.AskOutLaws.{end_too_early, end_passes}
use Rattle.sheet.proofs.ask_end.Goals as goal

pub returns-then-k-lt1 : goal.returns-then-k-lt1
returns-then-k-lt1 c = λ d h. end_too_early d c.args.k h c.if-k-lt1.true

pub returns : goal.returns
returns c = λ d h. end_passes d c.args.k h c.if-k-lt1.false
