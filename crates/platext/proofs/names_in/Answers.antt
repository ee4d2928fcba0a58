-- `names_in`: the word at the front, so many names, and whether the line ends there. Assumes nothing.
use Rattle.std.proofs.Common.{sym, ◌∙◌, leb-true, leb-false, length, Some, None}
use Rattle.cursor.specs.MovedLaws.{moved-start}
use Rattle.sheet.specs.LineLaws.{no_word, no_list, whole-line, longer-line}
use Rattle.platext.specs.Lines.{names_of, read_named}
use Rattle.platext.proofs.names_in.Goals as goal

pub returns-in_err-c : goal.returns-in_err-c
unfolding read_named
returns-in_err-c c = rw c.from_residual.ensures (no_word c.args.head.now c.args.l.now (names_of c.args.n) (moved-start _ _ None c.start.result c.start.ensures c.in_err-c.ensures))

pub returns-in_err-list : goal.returns-in_err-list
unfolding read_named
returns-in_err-list c =
    rw c.from_residual-in_err-list.ensures (no_list c.args.head.now c.args.l.now (names_of c.args.n)
    (moved-start _ _ (Some c.in_ok-c.c) c.start.result c.start.ensures c.in_ok-c.ensures) c.in_err-list.ensures)

pub returns-then-at_end : goal.returns-then-at_end
unfolding read_named
returns-then-at_end c =
    let a = c.args in
    let l = c.in_ok-list.list in
    whole-line a.head.now a.l.now (names_of a.n)
    (moved-start _ _ (Some c.in_ok-c.c) c.start.result c.start.ensures c.in_ok-c.ensures) l c.in_ok-list.ensures (leb-true (length a.l.now) l.next.at (sym c.at_end.ensures ∙ c.if-at_end.true))

pub returns-else-at_end : goal.returns-else-at_end
unfolding read_named
returns-else-at_end c =
    let a = c.args in
    let l = c.in_ok-list.list in
    longer-line a.head.now a.l.now (names_of a.n)
    (moved-start _ _ (Some c.in_ok-c.c) c.start.result c.start.ensures c.in_ok-c.ensures) l c.in_ok-list.ensures (leb-false (length a.l.now) l.next.at (sym c.at_end.ensures ∙ c.if-at_end.false))
