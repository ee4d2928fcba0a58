-- Signals are compared byte by byte, names of a design with case ignored: a name that is not among some stands nowhere in
-- them, and names of which none stands twice stand once each. Lists of signals, one after another. Assumes nothing.
use Rattle.std.specs.Prelude.{◌≡◌, refl, true, false, not, List, [], ◌∷◌, ◌++◌}
use Rattle.std.proofs.Common.{ap, subst}
use Rattle.std.proofs.lemmas.Bool.{not-true}
use Rattle.bits.specs.LogicLaws.{and_left, and_right, and_both, false_unless, neither_first, neither_second}
use Rattle.text.specs.Bytes.{same}
use Rattle.text.specs.BytesLaws.{differ_same}
use Rattle.names.specs.Name.{Name, among, distinct}
use Rattle.names.specs.Spelled.{stands_in}
use Rattle.names.specs.StandLaws.{stands_among, stands_first, stands_later}
use Rattle.classes.specs.Cases.{not_both}
use Rattle.classes.specs.FreeLaws.{distinct_first, distinct-later}
use Rattle.blif.specs.Model.{Signal}
use Rattle.blif.specs.Reader.{once}

pub absent : (n : Name) (ns : List Name) → among n ns ≡ false → stands_in n ns ≡ false
absent n ns e = false_unless (stands_in n ns) (λ s. not_both (among n ns) (stands_among n ns s) e)

pub distinct-once : (ns : List Name) → distinct ns ≡ true → once ns ≡ true
unfolding once
distinct-once [] e = refl
distinct-once (n ∷ ns) e =
    and_both (not (stands_in n ns)) (once ns)
    (ap not (absent n ns (distinct_first n ns e)))
    (distinct-once ns (distinct-later n ns e))

-- ---- signals that stand once each
once_first : (s : Signal) (ss : List Signal) → once (s ∷ ss) ≡ true → stands_in s ss ≡ false
unfolding once
once_first s ss e = not-true (stands_in s ss) (and_left (not (stands_in s ss)) (once ss) e)

pub once-later : (s : Signal) (ss : List Signal) → once (s ∷ ss) ≡ true → once ss ≡ true
unfolding once
once-later s ss e = and_right (not (stands_in s ss)) (once ss) e

-- the first is none of the others
pub once_another : (s t : Signal) (ss : List Signal) → once (s ∷ ss) ≡ true → stands_in t ss ≡ true → same s t ≡ false
once_another s t ss e h =
    differ_same s t (λ q. not_both (stands_in t ss) h (subst (λ (k : Signal). stands_in k ss ≡ false) q (once_first s ss e)))

-- ---- one list after another
pub stands_neither : (s : Signal) (ss ts : List Signal) → stands_in s ss ≡ false → stands_in s ts ≡ false → stands_in s (ss ++ ts) ≡ false
unfolding stands_in
stands_neither s [] ts e f = f
stands_neither s (t ∷ ss) ts e f =
    rw (neither_first (same t s) (stands_in s ss) e) (stands_neither s ss ts (neither_second (same t s) (stands_in s ss) e) f)

pub once_both : (ss ts : List Signal)
    → once ss ≡ true
    → once ts ≡ true
    → ((s : Signal) → stands_in s ss ≡ true → stands_in s ts ≡ false)
    → once (ss ++ ts) ≡ true
unfolding once
once_both [] ts e f h = f
once_both (s ∷ ss) ts e f h =
    and_both (not (stands_in s (ss ++ ts))) (once (ss ++ ts))
    (ap not (stands_neither s ss ts (once_first s ss e) (h s (stands_first s s ss refl))))
    (once_both ss ts (once-later s ss e) f (λ t g. h t (stands_later s t ss g)))
