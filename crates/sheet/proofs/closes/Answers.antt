-- `closes`: the bracket, and whether the line ends after it. Assumes nothing.
use Rattle.std.proofs.Common.{◌∙◌}
use Rattle.sheet.specs.CloseLaws.{closes_there, closes_not}
use Rattle.sheet.proofs.closes.Goals as goal

pub returns-in-Some : goal.returns-in-Some
returns-in-Some c = c.at_end.ensures ∙ closes_there c.args.l.now c.args.c.at c.in-Some.e c.in-Some.ensures

pub returns-in-None : goal.returns-in-None
returns-in-None c = closes_not _ c.in-None.ensures
