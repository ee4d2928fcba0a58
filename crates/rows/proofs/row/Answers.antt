-- `row`: the digit that is tested is the row's, by definition. Assumes nothing.
use Rattle.rows.specs.Words.{row_on}
use Rattle.rows.proofs.row.Goals as goal

pub returns : goal.returns
unfolding row_on
returns c = c.has.ensures
