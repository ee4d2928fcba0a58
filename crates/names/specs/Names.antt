-- Lists of names, as they are written and read: one space before each name, none before the bracket (clause 3.2). Assumes nothing.
use Rattle.std.specs.Prelude.{Bool, true, ◌&&◌, List, [], ◌∷◌, ◌++◌, ℕ, zero, suc, eqb, length}
use Rattle.bits.specs.Logic.{pick}
use Rattle.text.specs.Bytes.{Read, found, bad, after, space, close_bracket}
use Rattle.names.specs.Name.{Name, is_name, read_name}

-- whether all are names
unfoldable pub all_names : List Name → Bool
all_names [] = true
all_names (n ∷ ns) = is_name n && all_names ns

-- names, each after a space
unfoldable pub print_names : List Name → List ℕ
print_names [] = []
print_names (n ∷ ns) = space ∷ (n ++ print_names ns)

-- names, each after a space, and the closing bracket; the first argument bounds the calls
unfoldable pub names_within : ℕ → List ℕ → Read (List Name)
names_within zero s = bad
names_within (suc k) [] = bad
names_within (suc k) (b ∷ s) =
    let others = after (read_name s) (λ n t. after (names_within k t) (λ ns u. found (n ∷ ns) u)) in
    pick (eqb b close_bracket) (found [] s) (pick (eqb b space) others bad)

unfoldable pub read_names : List ℕ → Read (List Name)
read_names s = names_within (suc (length s)) s
