-- Where a line ends: at its 0x0A, or where the text ends. Assumes nothing.
use Rattle.std.specs.Prelude.{◌≡◌, List, ◌∷◌, ℕ, ◌+◌, ◌-◌, ◌≤◌, ◌<◌, length, get_or, take, drop}
use Rattle.text.specs.Bytes.{newline}
use Rattle.text.specs.Line.{lines}

-- e is the end of the line that starts at a place
pub record LineEnd (s : List ℕ) (at e : ℕ) : Type 0 where
  pub after-start : at ≤ e
  pub inside : e ≤ length s
  -- a line that 0x0A ends, and the lines after it
  pub ended : e < length s → (get_or s e 0 ≡ newline) × (lines (drop at s) ≡ take (e - at) (drop at s) ∷ lines (drop (e + 1) s))
  -- no 0x0A is left
  pub open_ended : (k : ℕ) → at ≤ k → k < e → get_or s k 0 ≡ newline → ⊥
