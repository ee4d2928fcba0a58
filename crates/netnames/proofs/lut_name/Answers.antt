-- `lut_name`: the two bytes of a table's name as one number. Assumes nothing.
use Rattle.netnames.specs.NumbersLaws.{table_name}
use Rattle.netnames.proofs.lut_name.Goals as goal

pub returns : goal.returns
returns c = table_name _ c.requires
