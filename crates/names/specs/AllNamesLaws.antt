-- Names among names are names. Assumes nothing.
use Rattle.std.specs.Prelude.{◌≡◌, refl, Bool, true, false, ◌||◌, List, [], ◌∷◌}
use Rattle.std.proofs.Common.{sym}
use Rattle.bits.specs.LogicLaws.{true_false, and_left, and_right, and_both}
use Rattle.names.specs.Name.{Name, is_name, same_name, among, all_among}
use Rattle.names.specs.Names.{all_names}
use Rattle.names.specs.SameNamesLaws.{same_is_name}

pub named-among : (n : Name) (ns : List Name) → all_names ns ≡ true → among n ns ≡ true → is_name n ≡ true
unfolding all_names among
named-among n [] a e = absurd (true_false (sym e))
named-among n (m ∷ ns) a e =
    go (same_name m n)
    (λ q. same_is_name m n q (and_left (is_name m) (all_names ns) a))
    (named-among n ns (and_right (is_name m) (all_names ns) a))
    e
  where
    go : (t : Bool) → (t ≡ true → is_name n ≡ true) → (among n ns ≡ true → is_name n ≡ true) → t || among n ns ≡ true → is_name n ≡ true
    go true f g h = f refl
    go false f g h = g h

pub all_named : (bs ns : List Name) → all_names ns ≡ true → all_among bs ns ≡ true → all_names bs ≡ true
unfolding all_names all_among
all_named [] ns a e = refl
all_named (b ∷ bs) ns a e =
    and_both (is_name b) (all_names bs)
    (named-among b ns a (and_left (among b ns) (all_among bs ns) e))
    (all_named bs ns a (and_right (among b ns) (all_among bs ns) e))
