-- `line_end`: each turn passes a byte that is no 0x0A. Assumes nothing.
use Rattle.std.specs.Prelude.{◌≡◌, ℕ, ◌≤◌, ◌<◌, get_or}
use Rattle.text.specs.Bytes.{newline}
use Rattle.text.proofs.line_end.Given as goal

abbrev pub invariant-loop-e : goal.invariant-loop-e
invariant-loop-e l = (k : ℕ) → k < l.e → l.at ≤ k → get_or l.s k 0 ≡ newline → ⊥
