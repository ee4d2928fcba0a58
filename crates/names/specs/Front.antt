-- A name, or a list of names up to its closing bracket, at the front of a text. Assumes nothing.
use Rattle.std.specs.Prelude.{◌≡◌, true, false, List, [], ◌∷◌, ◌++◌, ℕ}
use Rattle.text.specs.Bytes.{close_bracket}
use Rattle.names.specs.Name.{Name, name_byte, is_name}
use Rattle.names.specs.Names.{print_names, all_names}

-- where a name can end: the text ends, or a byte follows that stands in no name
abbrev pub Stops : List ℕ → Type 0
Stops [] = Unit {0}
Stops (b ∷ s) = name_byte b ≡ false

-- the name n at the front of s, with t after it
pub record NameFront (s : List ℕ) (n : Name) (t : List ℕ) : Type 0 where
  pub is_name_lem : is_name n ≡ true
  pub is_split : s ≡ n ++ t
  pub stops : Stops t

pub record NamesFront (s : List ℕ) (ns : List Name) (t : List ℕ) : Type 0 where
  pub all_names_lem : all_names ns ≡ true
  pub is_split : s ≡ print_names ns ++ (close_bracket ∷ t)
