-- `names_line`: the word at the front, the list after it, and whether the list ends with the line. Assumes nothing.
use Rattle.std.proofs.Common.{length, sym, Some, None}
use borrow.Author.Tests.{leb-true, leb-false}
use Rattle.names.specs.Names.{read_names}
use Rattle.cursor.specs.MovedLaws.{moved-start}
use Rattle.sheet.specs.LineLaws.{no_word, no_list, whole-line, longer-line}
use Rattle.sheet.proofs.names_line.Goals as goal

pub returns-in_err-c : goal.returns-in_err-c
returns-in_err-c c =
    let a = c.args in
    rw c.from_residual.ensures
    (no_word a.head.now a.l.now read_names (moved-start a.l.now a.head.now None c.start.result c.start.ensures c.in_err-c.ensures))

pub returns-in_err-r : goal.returns-in_err-r
returns-in_err-r c =
    let a = c.args in
    let word = moved-start a.l.now a.head.now (Some c.in_ok-c.c) c.start.result c.start.ensures c.in_ok-c.ensures in
    rw c.from_residual-in_err-r.ensures (no_list a.head.now a.l.now read_names word c.in_err-r.ensures)

pub returns-then-at_end : goal.returns-then-at_end
returns-then-at_end c =
    let a = c.args in
    let word = moved-start a.l.now a.head.now (Some c.in_ok-c.c) c.start.result c.start.ensures c.in_ok-c.ensures in
    let e = leb-true (length a.l.now) c.in_ok-r.r.next.at (sym c.if-at_end.ensures) in
    whole-line a.head.now a.l.now read_names word c.in_ok-r.r c.in_ok-r.ensures e

pub returns-else-at_end : goal.returns-else-at_end
returns-else-at_end c =
    let a = c.args in
    let word = moved-start a.l.now a.head.now (Some c.in_ok-c.c) c.start.result c.start.ensures c.in_ok-c.ensures in
    let e = leb-false (length a.l.now) c.in_ok-r.r.next.at (sym c.if-at_end.ensures) in
    longer-line a.head.now a.l.now read_names word c.in_ok-r.r c.in_ok-r.ensures e
