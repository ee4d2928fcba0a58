-- `table_at`: the digits, the bracket, and nothing after it. Assumes nothing.
use Rattle.std.proofs.Common.{sym, ◌∙◌}
use Rattle.network.specs.TablesLaws.{no_digits, no_bracket, more_left, table-read}
use Rattle.network.proofs.table_at.Goals as goal

pub returns-in_err-d : goal.returns-in_err-d
returns-in_err-d c =
    rw c.from_residual.ensures (no_digits c.args.l.now c.args.c.at c.args.n c.in_err-d.ensures)

pub returns-in_err-e : goal.returns-in_err-e
returns-in_err-e c =
    rw c.from_residual-in_err-e.ensures (no_bracket c.args.l.now c.args.c.at c.args.n c.in_ok-d.ensures c.in_err-e.ensures)

pub returns-then-at_end : goal.returns-then-at_end
returns-then-at_end c =
    table-read c.args.l.now c.args.c.at c.args.n c.in_ok-d.ensures c.in_ok-e.ensures c.requires (sym c.at_end.ensures ∙ c.if-at_end.true)

pub returns-else-at_end : goal.returns-else-at_end
returns-else-at_end c =
    more_left c.args.l.now c.args.c.at c.args.n c.in_ok-d.ensures c.in_ok-e.ensures (sym c.at_end.ensures ∙ c.if-at_end.false)
