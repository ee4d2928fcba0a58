-- The walk over a text's lines: it stands where line n starts, with the lines before it passed. Assumes nothing.
use Rattle.std.specs.Prelude.{◌≡◌, List, ◌++◌, ℕ, ◌+◌, ◌≤◌, length, drop}
use Rattle.text.specs.Line.{lines, ended_lines}

pub record Reached (t : List ℕ) (at n : ℕ) : Type 0 where
  pub before : List (List ℕ)
  pub split : lines t ≡ before ++ lines (drop at t)
  pub starts : length (ended_lines before) ≡ at
  pub counts : length before + 1 ≡ n
  -- a line has a byte at least, its 0x0A
  pub few : n ≤ at + 1
