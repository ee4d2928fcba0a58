-- `ended`: every line was read, or the next is missing. Assumes nothing.
use Rattle.netsheet.specs.WalkLaws.{ended_early, ended_over}
use Rattle.netsheet.proofs.ended.Goals as goal

pub returns-in-Over : goal.returns-in-Over
returns-in-Over c = λ t d w kn. ended_over kn c.args.n c.in-Over.is

pub returns-in_default : goal.returns-in_default
returns-in_default c = λ t d w kn. ended_early kn c.args.n c.in_default.not-Over
