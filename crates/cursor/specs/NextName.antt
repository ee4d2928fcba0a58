-- What stands next in a list of names: a name after a space, the closing bracket, or neither. Assumes nothing.
use Rattle.std.specs.Prelude.{◌≡◌, List, [], ◌∷◌, ℕ, ◌≤◌, ◌<◌, length, drop, Option, Some, None}
use Rattle.text.specs.Bytes.{found, bad, after}
use Rattle.names.specs.Name.{Name}
use Rattle.names.specs.Names.{read_names}
use Rattle.names.specs.Pack.{name_of}
use Rattle.cursor.specs.declared.Cursor.{Cursor}
use Rattle.cursor.specs.declared.NextName.{NextName}
use Rattle.cursor.specs.Item.{from}

-- the name n comes first, and the others are read after it
pub record NameNext (s : List ℕ) (at : ℕ) (n : Name) (c : Cursor) : Type 0 where
  pub further : at < c.at
  pub inside : c.at ≤ length s
  pub is : read_names (drop at s) ≡ after (read_names (from s c)) (λ ns t. found (n ∷ ns) t)

pub record NamesEnd (s : List ℕ) (at : ℕ) (c : Cursor) : Type 0 where
  pub inside : c.at ≤ length s
  pub is : read_names (drop at s) ≡ found [] (from s c)

abbrev pub NextIs : List ℕ → ℕ → Option NextName → Type 0
NextIs s at (Some (NextName.Name v c)) = NameNext s at (name_of v) c
NextIs s at (Some (NextName.End c)) = NamesEnd s at c
NextIs s at None = read_names (drop at s) ≡ bad
