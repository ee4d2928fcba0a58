-- A writer once a text is put down: the same borrow with the text at the writer's place, and the place after it. Assumes nothing.
use Rattle.std.specs.Prelude.{◌≡◌, List, ℕ, ◌+◌, ◌≤◌, length}
use Rattle.std.proofs.lemmas.List.Edits.{sets}
use denote.Ref.{at_last}
use Rattle.writer.specs.declared.Writer.{Writer}

-- the writer after the text s
abbrev pub after : Writer → List ℕ → Writer
after w s = record { out = at_last w.out (sets w.out.now w.at s); at = w.at + length s }

-- r is the writer w after the text s, of at most m bytes
pub record Appended (m : ℕ) (w r : Writer) (s : List ℕ) : Type 0 where
  pub moved : r ≡ after w s
  pub short : length s ≤ m
