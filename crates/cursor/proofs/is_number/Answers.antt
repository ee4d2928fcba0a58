-- `is_number`: by the number of digits and the first of them. Assumes nothing.
use Rattle.std.proofs.Common.{◌∙◌, arith, eq-eqb}
use Rattle.std.proofs.lemmas.Bool.{lt-leb}
use Rattle.cursor.specs.ReadNumberLaws.{no_digits, one-digit, many_digits, some_digits}
use Rattle.cursor.proofs.is_number.Goals as goal

pub returns-in-0 : goal.returns-in-0
returns-in-0 c = no_digits _ _ _ _ c.requires.0 c.requires.1 c.in-0.is

pub returns-then-n-eq1 : goal.returns-then-n-eq1
returns-then-n-eq1 c = eq-eqb _ _ c.if-n-eq1.true ∙ one-digit _ _ _ _ c.requires.0 c.requires.1 c.if-n-eq1.true c.if-n-digits.true

pub returns-else-n-eq1 : goal.returns-else-n-eq1
returns-else-n-eq1 c = some_digits _ _ _ _ c.requires.0 c.requires.1 (omega arith) c.if-n-digits.true

pub returns-else-n-digits : goal.returns-else-n-digits
returns-else-n-digits c = lt-leb _ _ c.if-n-digits.false ∙ many_digits _ _ _ _ c.requires.0 c.requires.1 c.if-n-digits.false
