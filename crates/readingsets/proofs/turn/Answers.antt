use Rattle.readingsets.specs.ChoiceLaws.{turned_down, turned_up}
use Rattle.std.proofs.Common.{arith}
use Rattle.readingsets.proofs.turn.Goals as goal

pub returns-then-down : goal.returns-then-down
returns-then-down c = let a = c.args in let h = c.requires in (turned_down a.down a.end a.i c.if-down.true, omega arith)

pub returns-else-down : goal.returns-else-down
returns-else-down c = let a = c.args in (turned_up a.down a.end a.i c.if-down.false, c.requires)
