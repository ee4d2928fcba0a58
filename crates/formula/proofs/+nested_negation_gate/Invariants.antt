-- `nested`, `negation` and `gate`: what opens a formula decides; the loop keeps what the operands so far come to. Twice what is
-- left of the text, and one more in `negation` and `gate`, falls at each call. Assumes nothing.
use Rattle.std.proofs.Common.{map, ◌+◌, ◌*◌, ◌<◌, length, drop}
use Rattle.names.specs.Pack.{name_of}
use Rattle.cursor.specs.Item.{from, gate_of}
use Rattle.formula.specs.Reader.{read_formula}
use Rattle.formula.specs.Walk.{Further}
use Rattle.formula.proofs.+nested_negation_gate.Given as goal

abbrev pub decreases-nested : goal.decreases-nested
decreases-nested l = 2 * length (drop l.c.at l.s.now)

abbrev pub decreases-negation : goal.decreases-negation
decreases-negation l = 2 * length (drop l.c.at l.s.now) + 1

abbrev pub decreases-gate : goal.decreases-gate
decreases-gate l = 2 * length (drop l.c.at l.s.now) + 1

abbrev pub invariant-gate-loop-sum : goal.invariant-gate-loop-sum
invariant-gate-loop-sum l =
    Further l.left l.s (map name_of l.inputs) (gate_of l.g) (read_formula (from l.s l.fn.c)) l.sum l.next
    × (length (from l.s l.next) < length (from l.s l.fn.c))

abbrev pub decreases-gate-loop-sum : goal.decreases-gate-loop-sum
decreases-gate-loop-sum l = length (from l.s l.next)
