-- `with_output`: the name and the table are stored after the others. Assumes nothing.
use Rattle.sheet.specs.OutputLaws.{output-added}
use Rattle.sheet.proofs.Arrays.{tables_sized, outs_sized}
use Rattle.sheet.proofs.with_output.Goals as goal

pub returns : goal.returns
returns c = λ d o h e t. output-added d o c.args.k c.args.n c.args.rows h c.requires (tables_sized c.args.k c.well_formed.0) t (outs_sized c.args.k c.well_formed.0) e
