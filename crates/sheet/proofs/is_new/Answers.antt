-- `is_new`: the name is looked up among the inputs and among the outputs. Assumes nothing.
use Rattle.sheet.specs.NewNameLaws.{among_outputs, among_inputs}
use Rattle.sheet.proofs.is_new.Goals as goal

pub returns-then-is_none : goal.returns-then-is_none
returns-then-is_none c = λ d h.
    among_outputs d c.args.k h c.args.n c.find.result c.find.ensures c.if-is_none.ensures
    c.find-then-is_none.result c.find-then-is_none.ensures c.is_none-then-is_none.result c.is_none-then-is_none.ensures

pub returns-else-is_none : goal.returns-else-is_none
returns-else-is_none c = λ d h.
    among_inputs d c.args.k h c.args.n c.find.result c.find.ensures c.if-is_none.ensures c.is_none.result c.is_none.ensures
