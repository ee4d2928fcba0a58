-- What it is to put a text into a buffer from a place on: stores past the buffer's end change nothing, so it is said
-- without the buffer's length. Assumes nothing.
use Rattle.std.specs.Prelude.{◌≡◌, List, ℕ, ◌+◌, ◌≤◌, length}
use Rattle.std.proofs.lemmas.List.Edits.{sets}
use Rattle.limits.specs.Limits.{max_name}

-- the places that are counted: no network sheet reaches so far
abbrev pub reach : ℕ
reach = 1000000

-- the most bytes of a list's item: a space and a name
abbrev pub item_room : ℕ
item_room = 1 + max_name

-- the text s, of at most m bytes, is put into the buffer a at a place: b is the buffer then, r the place after the text
pub record Written (m : ℕ) (a b : List ℕ) (at r : ℕ) (s : List ℕ) : Type 0 where
  pub place : r ≡ at + length s
  pub bytes : b ≡ sets a at s
  pub short : length s ≤ m
