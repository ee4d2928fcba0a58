-- The order of lists is a total order where the items' is, since the first items that differ decide; and what that makes of byte order
-- in the words of clause 7.11. Assumes nothing.
use Rattle.std.specs.Prelude.{◌≡◌, true, false, ℕ}
use Rattle.std.proofs.Math.Path.{refl, sym, ap, ap₂}
use Rattle.std.proofs.Common.{◌∙◌, subst}
use mathlib.Core.List.{List, [], ◌∷◌}
use Prim.Native.Nat.{Ordering, compare}
use Rattle.bits.specs.LogicLaws.{true_false}
use Rattle.order.specs.Total.{turn, Total}
use Rattle.order.specs.Order.{then, list_order, is_less, byte_order, before, bit_order, table_order, tables_order}
use Rattle.order.specs.OrderLaws.{eq_not_lt, gt_not_lt, lt_not_eq, gt_not_eq, then_equal, neither_less, compare_total, bit_total}

turn_then : (o p : Ordering) → turn (then o p) ≡ then (turn o) (turn p)
turn_then Ordering.lt p = refl
turn_then Ordering.eq p = refl
turn_then Ordering.gt p = refl

-- ---- lists
module _ {A : Type 0} (c : A → A → Ordering) (t : Total c) where
  list_self : (a : List A) → list_order c a a ≡ Ordering.eq
  unfolding list_order
  list_self [] = refl
  list_self (x ∷ a) = ap (λ (o : Ordering). then o (list_order c a a)) (t.self x) ∙ list_self a

  list_equal : (a b : List A) → list_order c a b ≡ Ordering.eq → a ≡ b
  unfolding list_order
  list_equal [] [] e = refl
  list_equal [] (y ∷ b) e = absurd (lt_not_eq e)
  list_equal (x ∷ a) [] e = absurd (gt_not_eq e)
  list_equal (x ∷ a) (y ∷ b) e =
      let p = then_equal (c x y) (list_order c a b) e in
      ap₂ (λ (z : A) (l : List A). z ∷ l) (t.equal x y p.0) (list_equal a b p.1)

  list_turned : (a b : List A) → list_order c b a ≡ turn (list_order c a b)
  unfolding list_order
  list_turned [] [] = refl
  list_turned [] (y ∷ b) = refl
  list_turned (x ∷ a) [] = refl
  list_turned (x ∷ a) (y ∷ b) = ap₂ then (t.turned x y) (list_turned a b) ∙ sym (turn_then (c x y) (list_order c a b))

  list_chain : (a b d : List A) → list_order c a b ≡ Ordering.lt → list_order c b d ≡ Ordering.lt → list_order c a d ≡ Ordering.lt
  unfolding list_order
  list_chain [] [] d e f = absurd (eq_not_lt e)
  list_chain [] (y ∷ b) [] e f = absurd (gt_not_lt f)
  list_chain [] (y ∷ b) (z ∷ d) e f = refl
  list_chain (x ∷ a) [] d e f = absurd (gt_not_lt e)
  list_chain (x ∷ a) (y ∷ b) [] e f = absurd (gt_not_lt f)
  list_chain (x ∷ a) (y ∷ b) (z ∷ d) e f = go (c x y) (c y z) refl refl e f (list_chain a b d)
    where
      go : (o p : Ordering)
          → c x y ≡ o
          → c y z ≡ p
          → then o (list_order c a b) ≡ Ordering.lt
          → then p (list_order c b d) ≡ Ordering.lt
          → (list_order c a b ≡ Ordering.lt → list_order c b d ≡ Ordering.lt → list_order c a d ≡ Ordering.lt)
          → then (c x z) (list_order c a d) ≡ Ordering.lt
      go Ordering.lt Ordering.lt q r g h i = ap (λ (o : Ordering). then o (list_order c a d)) (t.chain x y z q r)
      go Ordering.lt Ordering.eq q r g h i =
          ap (λ (o : Ordering). then o (list_order c a d)) (subst (λ (w : A). c x w ≡ Ordering.lt) (t.equal y z r) q)
      go Ordering.lt Ordering.gt q r g h i = absurd (gt_not_lt h)
      go Ordering.eq Ordering.lt q r g h i =
          ap (λ (o : Ordering). then o (list_order c a d)) (subst (λ (w : A). c w z ≡ Ordering.lt) (sym (t.equal x y q)) r)
      go Ordering.eq Ordering.eq q r g h i =
          ap (λ (o : Ordering). then o (list_order c a d)) (subst (λ (w : A). c w z ≡ Ordering.eq) (sym (t.equal x y q)) r)
          ∙ i g h
      go Ordering.eq Ordering.gt q r g h i = absurd (gt_not_lt h)
      go Ordering.gt p q r g h i = absurd (gt_not_lt g)

  pub list_total : Total (list_order c)
  list_total = record { self = list_self; equal = list_equal; turned = list_turned; chain = list_chain }

-- ---- `before`, in the words of clause 7.11
pub bytes_total : Total byte_order
bytes_total = list_total compare compare_total

pub table_total : Total table_order
table_total = list_total bit_order bit_total

pub tables_total : Total tables_order
tables_total = list_total table_order table_total

less_is : (o : Ordering) → is_less o ≡ true → o ≡ Ordering.lt
less_is Ordering.lt e = refl
less_is Ordering.eq e = absurd (true_false (sym e))
less_is Ordering.gt e = absurd (true_false (sym e))

one_less : (o : Ordering) → is_less o ≡ true → is_less (turn o) ≡ false
one_less Ordering.lt e = refl
one_less Ordering.eq e = absurd (true_false (sym e))
one_less Ordering.gt e = absurd (true_false (sym e))

-- no text is before itself
pub before_self : (a : List ℕ) → before a a ≡ false
unfolding before
before_self a = ap is_less (bytes_total.self a)

-- of two texts one at most is before the other
pub before_one : (a b : List ℕ) → before a b ≡ true → before b a ≡ false
unfolding before
before_one a b e = ap is_less (bytes_total.turned a b) ∙ one_less (byte_order a b) e

-- of two texts that differ one is before the other
pub before_neither : (a b : List ℕ) → before a b ≡ false → before b a ≡ false → a ≡ b
unfolding before
before_neither a b e f = neither_less byte_order bytes_total a b (record { is_not = e }) (record { is_not = f })

pub before_chain : (a b d : List ℕ) → before a b ≡ true → before b d ≡ true → before a d ≡ true
unfolding before
before_chain a b d e f =
    ap is_less (bytes_total.chain a b d (less_is (byte_order a b) e) (less_is (byte_order b d) f))
