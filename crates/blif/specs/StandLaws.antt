-- Names that stand in a list letter for letter: those of a list that all stand in another, and the free inputs in the inputs.
-- Assumes nothing.
use Rattle.std.specs.Prelude.{◌≡◌, true, List, [], ◌∷◌}
use Rattle.std.proofs.Common.{sym, subst, ⊎_elim}
use Rattle.bits.specs.LogicLaws.{true_false, and_left, and_right, either}
use Rattle.names.specs.Name.{Name, among}
use Rattle.names.specs.Spelled.{stands_in, all_stand_in}
use Rattle.names.specs.StandLaws.{stands_first, stands_later, stands_cases}
use Rattle.classes.specs.Columns.{free}

pub all_stand : (ms ns : List Name) (n : Name) → all_stand_in ms ns ≡ true → stands_in n ms ≡ true → stands_in n ns ≡ true
unfolding all_stand_in stands_in
all_stand [] ns n e h = absurd (true_false (sym h))
all_stand (m ∷ ms) ns n e h =
    ⊎_elim
    (λ q. subst (λ (k : Name). stands_in k ns ≡ true) q (and_left (stands_in m ns) (all_stand_in ms ns) e))
    (λ l. all_stand ms ns n (and_right (stands_in m ns) (all_stand_in ms ns) e) l)
    (stands_cases m n ms h)

pub free_stands : (ns bs : List Name) (n : Name) → stands_in n (free ns bs) ≡ true → stands_in n ns ≡ true
unfolding free
free_stands [] bs n e = e
free_stands (m ∷ ns) bs n e =
    ⊎_elim
    (λ q. stands_later m n ns (free_stands ns bs n (rw q at e)))
    (λ q.
    let h : stands_in n (m ∷ free ns bs) ≡ true = rw q at e in
    ⊎_elim
    (λ s. stands_first m n ns s)
    (λ l. stands_later m n ns (free_stands ns bs n l))
    (stands_cases m n (free ns bs) h))
    (either (among m bs))
