-- `limit_line`: the head of the line, the number and the bracket, each where the one before ends. Assumes nothing.
use Rattle.std.proofs.Common.{sym, Some, None}
use Rattle.text.specs.Bytes.{bytes}
use Rattle.cursor.specs.MovedLaws.{moved-start}
use Rattle.sheet.specs.LimitLaws.{limit_no_head, limit_no_number, limit_closed, limit_unclosed}
use Rattle.sheet.proofs.limit_line.Goals as goal

pub returns-in_err-c : goal.returns-in_err-c
returns-in_err-c c =
    let l = c.args.l.now in
    rw c.from_residual.ensures (limit_no_head l (moved-start l (bytes "(limit ") None c.start.result c.start.ensures c.in_err-c.ensures))

pub returns-in_err-n : goal.returns-in_err-n
returns-in_err-n c =
    let l = c.args.l.now in
    let head = moved-start l (bytes "(limit ") (Some c.in_ok-c.c) c.start.result c.start.ensures c.in_ok-c.ensures in
    rw c.from_residual-in_err-n.ensures (limit_no_number l head c.in_err-n.ensures)

pub returns-then-closes : goal.returns-then-closes
returns-then-closes c =
    let l = c.args.l.now in
    let head = moved-start l (bytes "(limit ") (Some c.in_ok-c.c) c.start.result c.start.ensures c.in_ok-c.ensures in
    limit_closed l head c.in_ok-n.ensures (sym c.if-closes.ensures)

pub returns-else-closes : goal.returns-else-closes
returns-else-closes c =
    let l = c.args.l.now in
    let head = moved-start l (bytes "(limit ") (Some c.in_ok-c.c) c.start.result c.start.ensures c.in_ok-c.ensures in
    limit_unclosed l head c.in_ok-n.ensures (sym c.if-closes.ensures)
