-- Where a name stands first among some: distinct names stand at their places, and the name at a name's place is how the names
-- spell it. Assumes nothing.
use Rattle.std.specs.Prelude.{◌≡◌, true, List, [], ◌∷◌, ℕ, zero, suc, ◌<◌, length, get_or}
use Rattle.std.proofs.Common.{sym, ap, ◌∙◌, ⊎_elim, arith}
use Rattle.bits.specs.LogicLaws.{true_false, either}
use Rattle.names.specs.Name.{Name, same_name, among, distinct}
use Rattle.names.specs.Spelled.{spelled_by, stands_in}
use Rattle.names.specs.SameLaws.{same_name_self}
use Rattle.names.specs.StandLaws.{stands_among}
use Rattle.names.specs.SpelledLaws.{spelled_own}
use Rattle.sheet.specs.Known.{position}
use Rattle.classes.specs.FreeLaws.{among_at, distinct-later, first_another}

pub position_at : (ns : List Name) (i : ℕ) → distinct ns ≡ true → i < length ns → position ns (get_or ns i []) ≡ i
unfolding position
position_at [] i e l = absurd (omega arith)
position_at (n ∷ ns) zero e l = rw (same_name_self n)
position_at (n ∷ ns) (suc i) e l =
    rw (first_another n (get_or ns i []) ns e (among_at ns i (omega arith)))
    (ap suc (position_at ns i (distinct-later n ns e) (omega arith)))

pub at_position : (ns : List Name) (n : Name) → among n ns ≡ true → get_or ns (position ns n) [] ≡ spelled_by ns n
unfolding position among spelled_by
at_position [] n e = absurd (true_false (sym e))
at_position (m ∷ ns) n e =
    ⊎_elim
    (λ s. rw s)
    (λ s. let later : get_or ns (position ns n) [] ≡ spelled_by ns n = at_position ns n (rw s at e) in rw s later)
    (either (same_name m n))

-- a name that stands among distinct names is the name at its place
pub own_position : (ns : List Name) (n : Name) → distinct ns ≡ true → stands_in n ns ≡ true → get_or ns (position ns n) [] ≡ n
own_position ns n d s = at_position ns n (stands_among n ns s) ∙ spelled_own ns n d s

pub position-lt : (ns : List Name) (n : Name) → among n ns ≡ true → position ns n < length ns
unfolding position among
position-lt [] n e = absurd (true_false (sym e))
position-lt (m ∷ ns) n e =
    ⊎_elim
    (λ s. rw s (omega arith))
    (λ s. let later : position ns n < length ns = position-lt ns n (rw s at e) in rw s (omega arith))
    (either (same_name m n))
