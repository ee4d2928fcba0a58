-- A gate on two truth values. Assumes nothing.
use Rattle.std.specs.Prelude.{Bool}
use Rattle.bits.specs.Logic.{andb, orb, xorb}
use Rattle.cursor.specs.Opening.{Gate, and_gate, or_gate, xor_gate}

abbrev pub two : Gate → Bool → Bool → Bool
two and_gate = andb
two or_gate = orb
two xor_gate = xorb
