-- The value of an input on a row: the row's digit that the place of the first such name gives, and false for a name that is
-- no input. Assumes nothing.
use Rattle.std.specs.Prelude.{◌≡◌, refl, true, false, List, [], ℕ, ◌-◌, ◌<◌, length, get_or}
use Rattle.bits.specs.Digit.{on}
use Rattle.names.specs.Name.{Name, same_name, among}
use Rattle.names.specs.LookupLaws.{look_first, look_none}
use Rattle.formula.specs.Value.{on_row}

module _ (ms : List Name) (r : ℕ) (n : Name) where
  pub row_of_first : (i : ℕ) → i < length ms → same_name (get_or ms i []) n ≡ true
      → ((k : ℕ) → k < i → same_name (get_or ms k []) n ≡ false) → on_row ms r n ≡ on r (length ms - 1 - i)
  unfolding on_row
  row_of_first i l e h = look_first n (λ xs. on_row xs r n) (λ p. on r p) (λ m xs. refl) ms i l e h

  pub row_of_none : among n ms ≡ false → on_row ms r n ≡ false
  unfolding on_row
  row_of_none e = look_none n (λ xs. on_row xs r n) (λ p. on r p) (λ m xs. refl) ms e
