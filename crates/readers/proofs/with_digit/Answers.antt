use Rattle.readers.specs.KnownLaws.{digit_one, digit_zero}
use Rattle.readers.proofs.with_digit.Goals as goal

pub returns-then-d : goal.returns-then-d
returns-then-d c = let a = c.args in digit_one a.c a.known a.d c.if-d.true

pub returns-else-d : goal.returns-else-d
returns-else-d c = let a = c.args in digit_zero a.c a.known a.d c.if-d.false
