-- `count_of`: the word, the number, and whether the line ends there. Assumes nothing.
use Rattle.std.proofs.Common.{sym, ◌∙◌, leb-false, length, Some}
use Rattle.cursor.specs.MovedLaws.{moved-start}
use Rattle.platext.specs.CountLaws.{longer-count}
use Rattle.platext.proofs.count_of.Goals as goal

pub returns-else-at_end : goal.returns-else-at_end
returns-else-at_end c =
    longer-count c.args.head.now c.args.l.now (moved-start _ _ (Some c.in_ok-c.c) c.start.result c.start.ensures c.in_ok-c.ensures) c.in_ok-n.ensures (leb-false (length c.args.l.now) c.in_ok-n.e.at (sym c.at_end.ensures ∙ c.if-at_end.false))
