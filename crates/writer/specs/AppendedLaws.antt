-- A writer after a text, as a text put into its buffer. Assumes nothing.
use Rattle.std.specs.Prelude.{refl, List, ℕ, ◌≤◌, length}
use Rattle.emit.specs.Written.{Written}
use Rattle.writer.specs.declared.Writer.{Writer}
use Rattle.writer.specs.Appended.{after}

pub after-written : {m : ℕ} (w : Writer) (s : List ℕ) → length s ≤ m → Written m w.out.now (after w s).out.now w.at (after w s).at s
after-written w s short = record { place = refl; bytes = refl; short = short }
