-- Names in more than one spelling: lists that name the same, how some names spell one, and names that stand in a list letter
-- for letter (clause 4.9). Assumes nothing.
use Rattle.std.specs.Prelude.{Bool, true, false, ◌&&◌, ◌||◌, List, [], ◌∷◌}
use Rattle.bits.specs.Logic.{pick}
use Rattle.text.specs.Bytes.{same}
use Rattle.names.specs.Name.{Name, same_name}

-- whether two lists name the same, item by item
unfoldable pub same_names : List Name → List Name → Bool
same_names [] [] = true
same_names [] (n ∷ ns) = false
same_names (m ∷ ms) [] = false
same_names (m ∷ ms) (n ∷ ns) = same_name m n && same_names ms ns

-- how the names ms spell the name n: as the first of them that is the same
unfoldable pub spelled_by : List Name → Name → Name
spelled_by [] n = n
spelled_by (m ∷ ms) n =
    let later = spelled_by ms n in
    pick (same_name m n) m later

-- whether a name stands in a list letter for letter
unfoldable pub stands_in : Name → List Name → Bool
stands_in n [] = false
stands_in n (m ∷ ms) = same m n || stands_in n ms

unfoldable pub all_stand_in : List Name → List Name → Bool
all_stand_in [] ms = true
all_stand_in (n ∷ ns) ms = stands_in n ms && all_stand_in ns ms
