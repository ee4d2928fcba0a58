-- From a free row to the next: the row of a vertex and a free row, stepped over the digits of the free inputs, is the row of
-- that vertex and the next free row, for every number of inputs together. After the last free row comes the first again.
-- Assumes nothing.
use Rattle.std.specs.Prelude.{◌≡◌, Bool, ℕ, ◌+◌, ◌-◌, ◌^◌, ◌<◌}
use Rattle.std.proofs.Math.Path.{refl, sym, ap, ap₂}
use Rattle.std.proofs.Common.{◌∙◌}
use Rattle.std.proofs.Math.Logic.{⊎_elim}
use Rattle.std.proofs.Math.Bool.{true, false}
use mathlib.Core.List.{List, [], ◌∷◌}
use Rattle.std.specs.Int.Bits.{bit_or}
use Rattle.std.proofs.Math.ListN.{length}
use Rattle.bits.specs.Logic.{andb, xorb, pick}
use Rattle.bits.specs.LogicLaws.{true_false, either}
use Rattle.bits.specs.Digit.{on}
use Rattle.bits.specs.DigitLaws.{on_or_one, on_or_none, on-ones}
use Rattle.bits.specs.Carry.{full}
use Rattle.bits.specs.CarryLaws.{on_next}
use Rattle.names.specs.Name.{Name, same_name, among, distinct}
use Rattle.names.specs.SameLaws.{same_name_self, among_same}
use Rattle.rows.specs.Row.{row_of}
use Rattle.rows.specs.Step.{stepped}
use Rattle.rows.specs.StepLaws.{step_bound, step_free, step_lt}
use Rattle.formula.specs.Value.{on_row}
use Rattle.classes.specs.Columns.{free, on_parts, join_row, vertex_count, free_count}
use Rattle.classes.specs.Masks.{bound_digits, free_digits}
use Rattle.classes.specs.Proper.{Parted}
use Rattle.classes.specs.Seen.{from_last}
use Rattle.classes.specs.FreeLaws.{among_first, among_later, map_agree, distinct-later, first_another, free_bound, free_unbound, unbound_free}
use Rattle.classes.specs.SameNameLaws.{parts_same}
use Rattle.classes.specs.JoinLaws.{read_back, own_row, row_zero, join-lt, on-bound, on_free}
use Rattle.classes.specs.DigitLaws.{from_last_lt, from_last_row}

-- ---- a name's digit
from-here : (m n : Name) (ms : List Name) → same_name m n ≡ true → from_last (m ∷ ms) n ≡ length ms
unfolding from_last
from-here m n ms e = rw e

from-later : (m n : Name) (ms : List Name) → same_name m n ≡ false → from_last (m ∷ ms) n ≡ from_last ms n
unfolding from_last
from-later m n ms e = rw e

-- ---- a carry passes through bound digits
-- z has y's digits at those of free names, and 1 at those of bound names
module _ (bs : List Name) (z y : ℕ) where
  record Follows (ms : List Name) : Type 0 where
    pub each : (n : Name) → among n ms ≡ true → on z (from_last ms n) ≡ pick (among n bs) true (on y (from_last (free ms bs) n))

  free-later : (m n : Name) (ms : List Name) → same_name m n ≡ false → from_last (free (m ∷ ms) bs) n ≡ from_last (free ms bs) n
  free-later m n ms e =
      ⊎_elim
      (λ b. ap (λ (l : List Name). from_last l n) (free_bound m ms bs b))
      (λ f. ap (λ (l : List Name). from_last l n) (free_unbound m ms bs f) ∙ from-later m n (free ms bs) e)
      (either (among m bs))

  follows_later : (m : Name) (ms : List Name) → distinct (m ∷ ms) ≡ true → Follows (m ∷ ms) → Follows ms
  follows_later m ms e g =
      record {
        each = λ n h.
            let other : same_name m n ≡ false = first_another m n ms e h in
            ap (on z) (sym (from-later m n ms other)) ∙ g.each n (among_later m n ms h)
            ∙ ap (λ (k : ℕ). pick (among n bs) true (on y k)) (free-later m n ms other);
      }

  -- the digits of some last names are all 1 in z where y's are
  full-later : (ms : List Name) → distinct ms ≡ true → Follows ms → full z (length ms) ≡ full y (length (free ms bs))
  unfolding full free
  full-later [] e g = refl
  full-later (m ∷ ms) e g =
      let self : same_name m m ≡ true = same_name_self m in
      let later : full z (length ms) ≡ full y (length (free ms bs)) = full-later ms (distinct-later m ms e) (follows_later m ms e g) in
      let here : on z (length ms) ≡ pick (among m bs) true (on y (from_last (free (m ∷ ms) bs) m))
      = ap (on z) (sym (from-here m m ms self)) ∙ g.each m (among_first m ms) in
      ⊎_elim
      (λ b.
      let one : on z (length ms) ≡ true = here ∙ ap (λ (t : Bool). pick t true (on y (from_last (free (m ∷ ms) bs) m))) b in
      ap₂ andb one later ∙ ap (λ (l : List Name). full y (length l)) (sym (free_bound m ms bs b)))
      (λ f.
      let own : on z (length ms) ≡ on y (length (free ms bs))
      = here
      ∙ ap₂ (λ (t : Bool) (l : List Name). pick t true (on y (from_last l m))) f (free_unbound m ms bs f)
      ∙ ap (on y) (from-here m m (free ms bs) self) in
      ap₂ andb own later ∙ ap (λ (l : List Name). full y (length l)) (sym (free_unbound m ms bs f)))
      (either (among m bs))

  -- and so are those below a free name's
  full_below : (ms : List Name) (n : Name) → distinct ms ≡ true → Follows ms → among n ms ≡ true → among n bs ≡ false
      → full z (from_last ms n) ≡ full y (from_last (free ms bs) n)
  unfolding among
  full_below [] n e g h f = absurd (true_false (sym h))
  full_below (m ∷ ms) n e g h f =
      ⊎_elim
      (λ s.
      let unbound : among m bs ≡ false = among_same m n s bs ∙ f in
      ap (full z) (from-here m n ms s)
      ∙ full-later ms (distinct-later m ms e) (follows_later m ms e g)
      ∙ ap (full y) (sym (from-here m n (free ms bs) s))
      ∙ ap (λ (l : List Name). full y (from_last l n)) (sym (free_unbound m ms bs unbound)))
      (λ s.
      ap (full z) (from-later m n ms s)
      ∙ full_below ms n (distinct-later m ms e) (follows_later m ms e g) (rw s at h) f
      ∙ ap (full y) (sym (free-later m n ms s)))
      (either (same_name m n))

-- ---- the digits of rows, of the last vertex and of the last free row
row-ones : (ms : List Name) (n : Name) → among n ms ≡ true → on_row ms (2 ^ length ms - 1) n ≡ true
row-ones ms n e =
    from_last_row ms n (2 ^ length ms - 1) e ∙ on-ones (length ms) (from_last ms n) (from_last_lt ms n e)

module _ (ns bs : List Name) where
  abbrev fs : List Name
  fs = free ns bs

  on-join : (x y : ℕ) (n : Name) → among n ns ≡ true → on (join_row ns bs x y) (from_last ns n) ≡ on_parts bs fs x y n
  unfolding join_row
  on-join x y n h =
      sym (from_last_row ns n (join_row ns bs x y) h) ∙ read_back (on_parts bs fs x y) (parts_same bs fs x y) ns n h

  bound_on_bound : (n : Name) → among n ns ≡ true → among n bs ≡ true → on (bound_digits ns bs) (from_last ns n) ≡ true
  bound_on_bound n h b =
      on-join (vertex_count bs - 1) 0 n h ∙ on-bound bs fs (vertex_count bs - 1) 0 n b ∙ row-ones bs n b

  bound_on_free : (n : Name) → among n ns ≡ true → among n bs ≡ false → on (bound_digits ns bs) (from_last ns n) ≡ false
  bound_on_free n h f =
      on-join (vertex_count bs - 1) 0 n h ∙ on_free bs fs (vertex_count bs - 1) 0 n f ∙ row_zero fs n

  free_on_bound : (n : Name) → among n ns ≡ true → among n bs ≡ true → on (free_digits ns bs) (from_last ns n) ≡ false
  free_on_bound n h b =
      on-join 0 (free_count ns bs - 1) n h ∙ on-bound bs fs 0 (free_count ns bs - 1) n b ∙ row_zero bs n

  free_on_free : (n : Name) → among n ns ≡ true → among n bs ≡ false → on (free_digits ns bs) (from_last ns n) ≡ true
  free_on_free n h f =
      on-join 0 (free_count ns bs - 1) n h ∙ on_free bs fs 0 (free_count ns bs - 1) n f ∙ row-ones fs n (unbound_free ns bs n h f)

  -- a free name's digit, in the row and in the free row
  on_join_free : (x y : ℕ) (n : Name) → among n ns ≡ true → among n bs ≡ false
      → on (join_row ns bs x y) (from_last ns n) ≡ on y (from_last fs n)
  on_join_free x y n h f =
      on-join x y n h ∙ on_free bs fs x y n f ∙ from_last_row fs n y (unbound_free ns bs n h f)

  -- ---- the step
  module _ (p : Parted ns bs) (x y : ℕ) where
    abbrev row : ℕ
    row = join_row ns bs x y

    abbrev next : ℕ
    next = stepped (bound_digits ns bs) (free_digits ns bs) row

    follows : Follows bs (bit_or row (bound_digits ns bs)) y ns
    follows =
        record {
          each = λ n h.
              let k : ℕ = from_last ns n in
              ⊎_elim
              (λ b.
              on_or_one row (bound_digits ns bs) k (bound_on_bound n h b)
              ∙ ap (λ (t : Bool). pick t true (on y (from_last fs n))) (sym b))
              (λ f.
              on_or_none row (bound_digits ns bs) k (bound_on_free n h f) ∙ on_join_free x y n h f
              ∙ ap (λ (t : Bool). pick t true (on y (from_last fs n))) (sym f))
              (either (among n bs));
        }

    step_at : (n : Name) → among n ns ≡ true → on_row ns next n ≡ on_parts bs fs x (y + 1) n
    step_at n h =
        let k : ℕ = from_last ns n in
        from_last_row ns n next h
        ∙ ⊎_elim
        (λ b.
        step_bound (bound_digits ns bs) (free_digits ns bs) row k (bound_on_bound n h b) (free_on_bound n h b)
        ∙ on-join x y n h ∙ on-bound bs fs x y n b ∙ sym (on-bound bs fs x (y + 1) n b))
        (λ f.
        step_free (bound_digits ns bs) (free_digits ns bs) row k (bound_on_free n h f) (free_on_free n h f)
        ∙ ap₂ xorb (on_join_free x y n h f) (full_below bs (bit_or row (bound_digits ns bs)) y ns n p.inputs_distinct follows h f)
        ∙ sym (on_next y (from_last fs n))
        ∙ sym (from_last_row fs n (y + 1) (unbound_free ns bs n h f))
        ∙ sym (on_free bs fs x (y + 1) n f))
        (either (among n bs))

    pub next_row : stepped (bound_digits ns bs) (free_digits ns bs) (join_row ns bs x y) ≡ join_row ns bs x (y + 1)
    unfolding join_row
    next_row =
        let small : next < 2 ^ length ns
        = step_lt (length ns) (bound_digits ns bs) (free_digits ns bs) row (join-lt ns bs (vertex_count bs - 1) 0) (join-lt ns bs 0 (free_count ns bs - 1)) in
        sym (own_row ns next p.inputs_distinct small)
        ∙ ap row_of (map_agree (on_row ns next) (on_parts bs fs x (y + 1)) ns step_at)
