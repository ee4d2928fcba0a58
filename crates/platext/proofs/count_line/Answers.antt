-- `count_line`: the line, its number, and whether that is large enough. Assumes nothing.
use Rattle.platext.specs.LineReadLaws.{count-unread, count-too-low, count-passed}
use Rattle.platext.proofs.count_line.Goals as goal

pub returns-in_err-n : goal.returns-in_err-n
returns-in_err-n c = rw c.from_residual-in_err-n.ensures (count-unread c.args.head.now c.in_ok-e.ensures c.args.low c.in_err-n.ensures)

pub returns-then-n-low : goal.returns-then-n-low
returns-then-n-low c = count-too-low c.args.head.now c.in_ok-e.ensures c.args.low c.in_ok-n.ensures c.if-n-low.true

pub returns-else-n-low : goal.returns-else-n-low
returns-else-n-low c = count-passed c.args.head.now c.in_ok-e.ensures c.args.low c.in_ok-n.ensures c.if-n-low.false
