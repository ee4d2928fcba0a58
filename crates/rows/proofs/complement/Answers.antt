-- `complement`: exclusive or with the table that holds on every row. Assumes nothing.
use Rattle.bits.specs.Logic.{xorb}
use Rattle.rows.specs.WordLaws.{rowwise_self, rowwise_two}
use Rattle.rows.proofs.complement.Goals as goal

pub returns : goal.returns
returns c = rowwise_two xorb c.differ.ensures c.constant.ensures rowwise_self
