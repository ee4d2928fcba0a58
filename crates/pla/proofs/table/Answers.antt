-- `table`: Table on what the panel's examination answers. Assumes nothing.
use borrow.Author.Rules.{rules}
use Rattle.panel.specs.Examine as spec
use Rattle.pla.proofs.table.Goals as goal

pub table_of-requires : goal.table_of-requires
table_of-requires c = c.examine.ensures.examination

pub returns : goal.returns
returns c = let a = c.args in
    c.table_of.ensures (spec.examine a.pla.now a.board.now) c.examine.ensures.examined_is
