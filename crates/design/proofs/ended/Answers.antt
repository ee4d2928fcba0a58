use Rattle.design.specs.ExamineLaws.{at_end_over, at_end_early}
use Rattle.design.proofs.ended.Goals as goal

pub returns-in-Over : goal.returns-in-Over
returns-in-Over c = λ d h. at_end_over c.args.p d c.args.n c.args.k c.in-Over.is h

pub returns-in_default : goal.returns-in_default
returns-in_default c = λ d h. at_end_early c.args.p d c.args.n c.in_default.not-Over
