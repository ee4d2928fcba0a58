-- A name that is given, where a network sheet repeats it: any name may stand there that is the same by the one comparison
-- of names (clause 8.9). Assumes nothing.
use Rattle.std.specs.Prelude.{Bool, true, false, List, [], ◌∷◌, ℕ}
use Rattle.bits.specs.Logic.{pick}
use Rattle.text.specs.Bytes.{Read, found, bad, after, eat, space}
use Rattle.names.specs.Name.{Name, read_name, same_name}

-- the name n
unfoldable pub read_given : Name → List ℕ → Read (Unit {0})
read_given n s = after (read_name s) (λ m t. pick (same_name n m) (found tt t) bad)

-- the name n as an item of a list: a space stands before it unless it is the first
abbrev pub read_item : Bool → Name → List ℕ → Read (Unit {0})
read_item true n s = read_given n s
read_item false n s = after (eat (space ∷ []) s) (λ _ t. read_given n t)

-- the names ns as items of a list
unfoldable pub read_givens : Bool → List Name → List ℕ → Read (Unit {0})
read_givens first [] s = found tt s
read_givens first (n ∷ ns) s = after (read_item first n s) (λ _ t. read_givens false ns t)
