-- A part that is a line of a text (clause 11.8). Assumes nothing.
use Rattle.std.specs.Prelude.{◌≡◌, List, ◌∷◌, ◌++◌, ℕ, ◌+◌, length}
use Rattle.text.specs.Line.{lines, ended_lines}
use Rattle.locate.specs.Located.{Part}

-- p is line l of the text s, with the lines before it and after it: it starts where those before it, each with its 0x0A, end
pub record IsLine (s : List ℕ) (before after : List (List ℕ)) (l : ℕ) (p : Part) : Type 0 where
  pub split : lines s ≡ before ++ (p.text ∷ after)
  pub counts : length before + 1 ≡ l
  pub starts : p.start ≡ length (ended_lines before)
