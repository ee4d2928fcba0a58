-- `skim` and `skim_operands`: what opens a formula decides; the loop keeps what the operands that are left come to. What is
-- left of the text falls at each call. Assumes nothing.
use Rattle.std.proofs.Common.{◌≡◌, true, false, ◌≤◌, length, drop}
use Rattle.text.specs.Bytes.{found}
use Rattle.cursor.specs.Item.{from}
use Rattle.formula.specs.SkimLaws.{ending}
use Rattle.formula.proofs.+skim_skim_operands.Given as goal

abbrev pub decreases-skim : goal.decreases-skim
decreases-skim l = length (drop l.c.at l.s.now)

abbrev pub decreases-skim_operands : goal.decreases-skim_operands
decreases-skim_operands l = length (drop l.first.at l.s.now)

abbrev pub invariant-skim_operands-loop-next : goal.invariant-skim_operands-loop-next
invariant-skim_operands-loop-next l =
    (length (from l.s l.past) ≤ length (from l.s l.fn.first))
    × (ending false (found tt (from l.s l.fn.first)) ≡ ending true (found tt (from l.s l.past)))

abbrev pub decreases-skim_operands-loop-next : goal.decreases-skim_operands-loop-next
decreases-skim_operands-loop-next l = length (from l.s l.past)
