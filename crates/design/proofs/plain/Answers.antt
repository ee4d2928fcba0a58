use Rattle.std.proofs.Common.{arith}
use Rattle.design.specs.SizeLaws.{plain-newline, plain_inside, plain_below, plain_above}
use Rattle.design.proofs.plain.Goals as goal

pub returns-in-10 : goal.returns-in-10
returns-in-10 c = plain-newline c.args.b c.in-10.is

pub returns-in-32-to-126 : goal.returns-in-32-to-126
returns-in-32-to-126 c = plain_inside c.args.b (omega arith) (omega arith)

pub returns-in_default : goal.returns-in_default
returns-in_default c = plain_below c.args.b (omega arith) (λ e. omega arith)

pub returns-in_default-2 : goal.returns-in_default-2
returns-in_default-2 c = plain_above c.args.b (omega arith) (λ e. omega arith)
