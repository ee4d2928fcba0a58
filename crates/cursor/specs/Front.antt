-- What opens a formula, at the front of a text: spelled, printed there, and followed by what may follow it.
-- Assumes nothing.
use Rattle.std.specs.Prelude.{◌≡◌, Bool, true, false, List, ◌++◌, ℕ}
use Rattle.text.specs.Bytes.{bytes}
use Rattle.names.specs.Name.{is_name}
use Rattle.names.specs.Front.{Stops}
use Rattle.cursor.specs.Opening.{and_gate, or_gate, xor_gate, Opening, name-opens, digit-opens, not-opens, gate_opens}

abbrev pub opening_print : Opening → List ℕ
opening_print (name-opens n) = n
opening_print (digit-opens false) = bytes "0"
opening_print (digit-opens true) = bytes "1"
opening_print not-opens = bytes "(not "
opening_print (gate_opens and_gate) = bytes "(and "
opening_print (gate_opens or_gate) = bytes "(or "
opening_print (gate_opens xor_gate) = bytes "(xor "

abbrev pub opening_spelled : Opening → Bool
opening_spelled (name-opens n) = is_name n
opening_spelled (digit-opens b) = true
opening_spelled not-opens = true
opening_spelled (gate_opens g) = true

-- what may follow: after a name the text stops
abbrev pub OpeningEnds : Opening → List ℕ → Type 0
OpeningEnds (name-opens n) t = Stops t
OpeningEnds (digit-opens b) t = Unit {0}
OpeningEnds not-opens t = Unit {0}
OpeningEnds (gate_opens g) t = Unit {0}

-- the opening i at the front of s, with t after it
pub record OpeningFront (s : List ℕ) (i : Opening) (t : List ℕ) : Type 0 where
  pub is_spelled : opening_spelled i ≡ true
  pub is_split : s ≡ opening_print i ++ t
  pub ends : OpeningEnds i t
