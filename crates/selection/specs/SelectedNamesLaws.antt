-- Some of different names are different: a name that is not among all is not among some of them. Assumes nothing.
use Rattle.std.specs.Prelude.{◌≡◌, refl, true, false, not, List, [], ◌∷◌, ℕ, suc}
use Rattle.std.proofs.Common.{⊎_elim}
use Rattle.std.proofs.lemmas.Bool.{not-true}
use Rattle.bits.specs.LogicLaws.{and_left, and_right, either, neither_first, neither_second}
use Rattle.bits.specs.Digit.{on}
use Rattle.names.specs.Name.{Name, same_name, among, distinct}
use Rattle.subsets.specs.Subset.{selected}

selected-among : (n : Name) (s i : ℕ) (ns : List Name) → among n ns ≡ false → among n (selected s i ns) ≡ false
unfolding among selected
selected-among n s i [] h = refl
selected-among n s i (m ∷ ns) h =
    let later = selected-among n s (suc i) ns (neither_second (same_name m n) (among n ns) h) in
    ⊎_elim
    (λ e. rw e (rw (neither_first (same_name m n) (among n ns) h) later))
    (λ e. rw e later)
    (either (on s i))

pub selected-distinct : (s i : ℕ) (ns : List Name) → distinct ns ≡ true → distinct (selected s i ns) ≡ true
unfolding distinct selected
selected-distinct s i [] h = refl
selected-distinct s i (n ∷ ns) h =
    let later = selected-distinct s (suc i) ns (and_right (not (among n ns)) (distinct ns) h) in
    let new = selected-among n s (suc i) ns (not-true (among n ns) (and_left (not (among n ns)) (distinct ns) h)) in
    ⊎_elim (λ e. rw e (rw new later)) (λ e. rw e later) (either (on s i))
