-- `next_line`: where the line ends, and whether in a 0x0A. Assumes nothing.
use Rattle.platext.specs.LinePassLaws.{nothing_left, ended-line, unended}
use Rattle.platext.proofs.next_line.Goals as goal

pub returns-then-s-at : goal.returns-then-s-at
returns-then-s-at c = nothing_left _ _ c.if-s-at.true

pub returns-then-e-s : goal.returns-then-e-s
returns-then-e-s c = ended-line _ _ _ c.if-s-at.false c.line_end-e.ensures c.if-e-s.true

pub returns-else-e-s : goal.returns-else-e-s
returns-else-e-s c = unended _ _ _ c.if-s-at.false c.line_end-e.ensures c.if-e-s.false
