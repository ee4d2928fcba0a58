-- `cell_name`: the four bytes of a cell's name as one number. Assumes nothing.
use Rattle.blif.specs.ItemLaws.{cell_held}
use Rattle.blif.proofs.cell_name.Goals as goal

pub returns : goal.returns
returns c = let pre = c.requires in
    cell_held _ pre
