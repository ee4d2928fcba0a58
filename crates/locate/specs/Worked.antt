-- Two short sheets and what is handed back of them: lines in the middle and at the end, line 0, a line past the end, and numbers of
-- either sheet and of none. Each is computed by the definitions. Assumes nothing.
use Rattle.std.specs.Prelude.{◌≡◌, refl, true, false, List, ℕ}
use Rattle.text.specs.Bytes.{bytes}
use Rattle.text.specs.Line.{lines, ended_lines}
use Rattle.locate.specs.Located.{of_design, of_network, has_line, start_of, text_of, located}

-- 23 bytes, of which 0x0A is the last
abbrev design : List ℕ
design = bytes "(design 1)\n(in a b a)\n\n"

-- 16 bytes: the last line lacks its 0x0A
abbrev network : List ℕ
network = bytes "(network 1)\n(end"

unfoldable computing : Unit {0}
unfolding lines ended_lines of_design of_network has_line start_of text_of located
computing = tt

-- ---- the design sheet
first_line_lem : located design network 2 1 ≡ record { second = false; start = 0; text = bytes "(design 1)" }
unfolding computing
first_line_lem = refl

middle_line : located design network 4 2 ≡ record { second = false; start = 11; text = bytes "(in a b a)" }
unfolding computing
middle_line = refl

empty_line : located design network 2 3 ≡ record { second = false; start = 22; text = bytes "" }
unfolding computing
empty_line = refl

-- no line follows the last 0x0A
line_past : located design network 2 4 ≡ record { second = false; start = 23; text = bytes "" }
unfolding computing
line_past = refl

line_0 : located design network 5 0 ≡ record { second = false; start = 23; text = bytes "" }
unfolding computing
line_0 = refl

-- ---- the network sheet
network_line_lem : located design network 11 1 ≡ record { second = true; start = 0; text = bytes "(network 1)" }
unfolding computing
network_line_lem = refl

last_line : located design network 10 2 ≡ record { second = true; start = 12; text = bytes "(end" }
unfolding computing
last_line = refl

network_line_past : located design network 10 3 ≡ record { second = true; start = 16; text = bytes "" }
unfolding computing
network_line_past = refl

-- ---- numbers that name no line
by_8 : located design network 8 2 ≡ record { second = false; start = 23; text = bytes "" }
unfolding computing
by_8 = refl

by_1 : located design network 1 0 ≡ record { second = false; start = 23; text = bytes "" }
unfolding computing
by_1 = refl
