-- Lists of texts that are each no longer than a name. Assumes nothing.
use Rattle.std.specs.Prelude.{◌≡◌, true, List, [], ◌∷◌, ◌++◌, map, ℕ, ◌≤◌, length}
use Rattle.bits.specs.LogicLaws.{and_left, and_right}
use Rattle.limits.specs.Limits.{max_name}
use Rattle.names.specs.Name.{Name, is_name}
use Rattle.names.specs.Names.{all_names}
use Rattle.names.specs.IsNameLaws.{name_short}

pub data Short : List Name → Type 0 where
  short_none : Short []
  short_more : {n : Name} {ns : List Name} → length n ≤ max_name → Short ns → Short (n ∷ ns)

pub short_append : {ms ns : List Name} → Short ms → Short ns → Short (ms ++ ns)
short_append short_none t = t
short_append (short_more h s) t = short_more h (short_append s t)

pub names_short : (ns : List Name) → all_names ns ≡ true → Short ns
unfolding all_names
names_short [] h = short_none
names_short (n ∷ ns) h =
    short_more (name_short n (and_left (is_name n) (all_names ns) h)) (names_short ns (and_right (is_name n) (all_names ns) h))

pub map_short : (f : ℕ → Name) → ((i : ℕ) → length (f i) ≤ max_name) → (is : List ℕ) → Short (map f is)
map_short f h [] = short_none
map_short f h (i ∷ is) = short_more (h i) (map_short f h is)
