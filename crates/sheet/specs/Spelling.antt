-- What it is for a kind of text to be read just as it is written. Assumes nothing.
use Rattle.std.specs.Prelude.{◌≡◌, List, ℕ}
use Rattle.std.proofs.Math.Option.{Option, some}

-- reading is the inverse of printing, for the things that can be written
pub record Inverse {A : Type 0} (Writable : A → Type 0) (print : A → List ℕ) (read : List ℕ → Option A) : Type 0 where
  pub read_of_print : (l : List ℕ) (a : A) → Writable a → l ≡ print a → read l ≡ some a
  pub print_of_read : (l : List ℕ) (a : A) → read l ≡ some a → Writable a × (l ≡ print a)
