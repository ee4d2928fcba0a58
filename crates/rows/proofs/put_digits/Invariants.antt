-- `put_digits`: each turn stores the digit of one row more. Assumes nothing.
use Rattle.rows.specs.Words.{row_on}
use Rattle.rows.proofs.Put.{Put}
use Rattle.rows.proofs.put_digits.Given as goal

abbrev pub invariant-loop-r : goal.invariant-loop-r
invariant-loop-r l = Put l.initial.b-items (row_on l.a) l.n l.b-items l.r
