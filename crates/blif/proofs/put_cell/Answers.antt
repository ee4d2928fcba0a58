-- `put_cell`: nothing, or the cell's name after a space. Assumes nothing.
use Rattle.std.proofs.Common.{sym, ◌∙◌}
use Rattle.blif.specs.ItemLaws.{cell_absent, cell_present}
use Rattle.blif.proofs.put_cell.Goals as goal

pub returns-then-has : goal.returns-then-has
returns-then-has c = let args = c.args in
    cell_present args.mask args.i (sym c.has.ensures ∙ c.if-has.true) c.cell_name.ensures c.put_item.ensures

pub returns-else-has : goal.returns-else-has
returns-else-has c = let args = c.args in
    cell_absent args.mask args.i _ _ (sym c.has.ensures ∙ c.if-has.false)
