-- Names among others, and the free inputs: a free input is an input that is not bound, none stands twice, and there are as
-- many as inputs are left when the bound ones are taken out. Assumes nothing.
use Rattle.std.specs.Prelude.{◌≡◌, refl, ◌⊎◌, true, false, not, List, [], ◌∷◌, map, ℕ, zero, suc, ◌+◌, ◌-◌, ◌<◌, length, get_or}
use Rattle.std.proofs.Common.{sym, ap, ap₂, ◌∙◌, ⊎_elim, arith}
use Rattle.std.proofs.lemmas.Bool.{not-true}
use Rattle.bits.specs.LogicLaws.{true_false, and_left, and_right, and_both, or_second, or_cases, false_unless, either, neither_first, neither_second}
use Rattle.names.specs.Name.{Name, same_name, among, distinct, all_among}
use Rattle.names.specs.SameLaws.{same_name_self, same_name_back, same_name_turned, among_same}
use Rattle.names.specs.StandLaws.{all_stand_among}
use Rattle.classes.specs.Cases.{not_both}
use Rattle.classes.specs.Columns.{free}
use Rattle.classes.specs.Proper.{Parted}

-- ---- a name among others
among-here : (m n : Name) (ns : List Name) → same_name m n ≡ true → among n (m ∷ ns) ≡ true
unfolding among
among-here m n ns e = rw e

pub among_first : (n : Name) (ns : List Name) → among n (n ∷ ns) ≡ true
among_first n ns = among-here n n ns (same_name_self n)

pub among_later : (m n : Name) (ns : List Name) → among n ns ≡ true → among n (m ∷ ns) ≡ true
unfolding among
among_later m n ns e = or_second (same_name m n) (among n ns) e

among_cases : (m n : Name) (ns : List Name) → among n (m ∷ ns) ≡ true → (same_name m n ≡ true) ⊎ (among n ns ≡ true)
unfolding among
among_cases m n ns e = or_cases (same_name m n) (among n ns) e

pub among_at : (ns : List Name) (i : ℕ) → i < length ns → among (get_or ns i []) ns ≡ true
among_at [] i l = absurd (omega arith)
among_at (n ∷ ns) zero l = among_first n ns
among_at (n ∷ ns) (suc i) l = among_later n (get_or ns i []) ns (among_at ns i (omega arith))

-- two functions that agree on the names of a list map it to one list
pub map_agree : {A : Type 0} (f g : Name → A) (ns : List Name) → ((n : Name) → among n ns ≡ true → f n ≡ g n) → map f ns ≡ map g ns
map_agree f g [] h = refl
map_agree {A} f g (n ∷ ns) h =
    ap₂ (λ (a : A) (l : List A). a ∷ l) (h n (among_first n ns)) (map_agree f g ns (λ m e. h m (among_later n m ns e)))

pub distinct_first : (n : Name) (ns : List Name) → distinct (n ∷ ns) ≡ true → among n ns ≡ false
unfolding distinct
distinct_first n ns e = not-true (among n ns) (and_left (not (among n ns)) (distinct ns) e)

pub distinct-later : (n : Name) (ns : List Name) → distinct (n ∷ ns) ≡ true → distinct ns ≡ true
unfolding distinct
distinct-later n ns e = and_right (not (among n ns)) (distinct ns) e

-- the first of distinct names is none of the others
pub first_another : (m n : Name) (ns : List Name) → distinct (m ∷ ns) ≡ true → among n ns ≡ true → same_name m n ≡ false
first_another m n ns e h =
    false_unless (same_name m n) (λ s. not_both (among m ns) (among_same m n s ns ∙ h) (distinct_first m ns e))

all_among_lem : (bs ns : List Name) (n : Name) → all_among bs ns ≡ true → among n bs ≡ true → among n ns ≡ true
unfolding all_among among
all_among_lem [] ns n e h = absurd (true_false (sym h))
all_among_lem (b ∷ bs) ns n e h =
    ⊎_elim
    (λ s. sym (among_same b n s ns) ∙ and_left (among b ns) (all_among bs ns) e)
    (λ l. all_among_lem bs ns n (and_right (among b ns) (all_among bs ns) e) l)
    (among_cases b n bs h)

pub bound_input : (ns bs : List Name) → Parted ns bs → (n : Name) → among n bs ≡ true → among n ns ≡ true
bound_input ns bs p n e = all_among_lem bs ns n (all_stand_among bs ns p.bound_inputs) e

-- ---- the free inputs
pub free_bound : (n : Name) (ns bs : List Name) → among n bs ≡ true → free (n ∷ ns) bs ≡ free ns bs
unfolding free
free_bound n ns bs e = rw e

pub free_unbound : (n : Name) (ns bs : List Name) → among n bs ≡ false → free (n ∷ ns) bs ≡ n ∷ free ns bs
unfolding free
free_unbound n ns bs e = rw e

pub free_input : (ns bs : List Name) (n : Name) → among n (free ns bs) ≡ true → among n ns ≡ true
unfolding free
free_input [] bs n e = e
free_input (m ∷ ns) bs n e =
    ⊎_elim
    (λ q. among_later m n ns (free_input ns bs n (rw q at e)))
    (λ q.
    let h : among n (m ∷ free ns bs) ≡ true = rw q at e in
    ⊎_elim
    (λ s. among-here m n ns s)
    (λ l. among_later m n ns (free_input ns bs n l))
    (among_cases m n (free ns bs) h))
    (either (among m bs))

pub free_not_bound : (ns bs : List Name) (n : Name) → among n (free ns bs) ≡ true → among n bs ≡ false
unfolding free among
free_not_bound [] bs n e = absurd (true_false (sym e))
free_not_bound (m ∷ ns) bs n e =
    ⊎_elim
    (λ q. free_not_bound ns bs n (rw q at e))
    (λ q.
    let h : among n (m ∷ free ns bs) ≡ true = rw q at e in
    ⊎_elim
    (λ s. sym (among_same m n s bs) ∙ q)
    (λ l. free_not_bound ns bs n l)
    (among_cases m n (free ns bs) h))
    (either (among m bs))

pub unbound_free : (ns bs : List Name) (n : Name) → among n ns ≡ true → among n bs ≡ false → among n (free ns bs) ≡ true
unfolding among
unbound_free [] bs n e h = absurd (true_false (sym e))
unbound_free (m ∷ ns) bs n e h =
    ⊎_elim
    (λ s.
    let f : among m bs ≡ false = among_same m n s bs ∙ h in
    rw (free_unbound m ns bs f) (among-here m n (free ns bs) s))
    (λ l.
    let later : among n (free ns bs) ≡ true = unbound_free ns bs n l h in
    ⊎_elim
    (λ q. rw (free_bound m ns bs q) later)
    (λ q. rw (free_unbound m ns bs q) (among_later m n (free ns bs) later))
    (either (among m bs)))
    (among_cases m n ns e)

pub free-distinct : (ns bs : List Name) → distinct ns ≡ true → distinct (free ns bs) ≡ true
unfolding distinct free
free-distinct [] bs e = refl
free-distinct (n ∷ ns) bs e =
    let later : distinct (free ns bs) ≡ true = free-distinct ns bs (distinct-later n ns e) in
    let new : among n (free ns bs) ≡ false
    = false_unless (among n (free ns bs))
    (λ h. not_both (among n ns) (free_input ns bs n h) (distinct_first n ns e)) in
    ⊎_elim
    (λ q. rw q later)
    (λ q. rw q (and_both (not (among n (free ns bs))) (distinct (free ns bs)) (ap not new) later))
    (either (among n bs))

-- ---- how many
free_all : (ns : List Name) → free ns [] ≡ ns
unfolding free among
free_all [] = refl
free_all (n ∷ ns) = ap (λ (l : List Name). n ∷ l) (free_all ns)

miss : (b n : Name) (bs : List Name) → same_name b n ≡ false → among n (b ∷ bs) ≡ among n bs
unfolding among
miss b n bs e = rw e

-- binding what is no input changes nothing
free_another : (b : Name) (ns bs : List Name) → among b ns ≡ false → free ns (b ∷ bs) ≡ free ns bs
unfolding free among
free_another b [] bs e = refl
free_another b (n ∷ ns) bs e =
    let other : same_name b n ≡ false = same_name_turned n b (neither_first (same_name n b) (among b ns) e) in
    let same : among n (b ∷ bs) ≡ among n bs = miss b n bs other in
    rw (same, free_another b ns bs (neither_second (same_name n b) (among b ns) e))

-- binding one input more leaves one free input less
free_one_less : (b : Name) (ns bs : List Name) → distinct ns ≡ true → among b ns ≡ true → among b bs ≡ false
    → length (free ns bs) ≡ suc (length (free ns (b ∷ bs)))
unfolding among
free_one_less b [] bs e h f = absurd (true_false (sym h))
free_one_less b (n ∷ ns) bs e h f =
    ⊎_elim
    (λ s.
    let gone : among n bs ≡ false = among_same n b s bs ∙ f in
    let bound : among n (b ∷ bs) ≡ true = among-here b n bs (same_name_back b n ∙ s) in
    let absent : among b ns ≡ false = sym (among_same n b s ns) ∙ distinct_first n ns e in
    rw (free_unbound n ns bs gone, free_bound n ns (b ∷ bs) bound, free_another b ns bs absent))
    (λ l.
    let later : length (free ns bs) ≡ suc (length (free ns (b ∷ bs))) = free_one_less b ns bs (distinct-later n ns e) l f in
    let other : same_name b n ≡ false = same_name_turned n b (first_another n b ns e l) in
    let same : among n (b ∷ bs) ≡ among n bs = miss b n bs other in
    ⊎_elim
    (λ q. rw (free_bound n ns bs q, free_bound n ns (b ∷ bs) (same ∙ q)) later)
    (λ q. rw (free_unbound n ns bs q, free_unbound n ns (b ∷ bs) (same ∙ q)) (ap suc later))
    (either (among n bs)))
    (among_cases n b ns h)

counted : (ns bs : List Name) → distinct ns ≡ true → distinct bs ≡ true → all_among bs ns ≡ true
    → length bs + length (free ns bs) ≡ length ns
unfolding all_among
counted ns [] e f g = rw (free_all ns) (omega arith)
counted ns (b ∷ bs) e f g =
    let before : length bs + length (free ns bs) ≡ length ns
    = counted ns bs e (distinct-later b bs f) (and_right (among b ns) (all_among bs ns) g) in
    let less : length (free ns bs) ≡ suc (length (free ns (b ∷ bs)))
    = free_one_less b ns bs e (and_left (among b ns) (all_among bs ns) g) (distinct_first b bs f) in
    omega arith

-- bound and free inputs are all inputs
pub bound_and_free : (ns bs : List Name) → Parted ns bs → length bs + length (free ns bs) ≡ length ns
bound_and_free ns bs p =
    counted ns bs p.inputs_distinct p.bound-distinct (all_stand_among bs ns p.bound_inputs)

pub length_free : (ns bs : List Name) → Parted ns bs → length (free ns bs) ≡ length ns - length bs
length_free ns bs p = let e : length bs + length (free ns bs) ≡ length ns = bound_and_free ns bs p in omega arith
