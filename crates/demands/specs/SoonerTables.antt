-- Two vertices of a core, one of which takes the values of the other: where the first cell in which they differ has 0 at the
-- one and 1 at the other, the tables come before the core's own. Assumes nothing.
use Rattle.std.specs.Prelude.{◌≡◌, refl, Bool, true, false, ◌⊎◌, eqb, length, get_or}
use Rattle.std.proofs.Common.{sym, ◌∙◌, subst, inl, inr, ⊎_elim, arith, eq-eqb, ne_eqb}
use Rattle.std.proofs.Math.Path.{ap}
use mathlib.Core.List.{List, [], ◌∷◌}
use Prim.Native.Nat.{ℕ, zero, suc, ◌<◌, Ordering}
use Rattle.std.proofs.Math.Decide.{ℕ_discrete}
use Rattle.bits.specs.Logic.{pick}
use Rattle.bits.specs.LogicLaws.{true_false}
use Rattle.bits.specs.Values.{values_upto}
use Rattle.bits.specs.ValuesLaws.{values_length, values_at, values_same}
use Rattle.order.specs.Order.{then, list_order, table_order, tables_order}
use Rattle.order.proofs.TotalLaws.{table_total}
use Rattle.cells.specs.Core.{Cell, ZeroFirst}
use Rattle.cells.specs.Free.{retabled}
use Rattle.cells.specs.Written.{tables_of}

-- ======== definitions
-- vertex y seen as vertex x, the others as themselves
abbrev pub seen_as : ℕ → ℕ → ℕ → ℕ
seen_as x y z = pick (eqb z y) x z

-- a core in which y has the values of x
abbrev pub moved : ℕ → ℕ → List Cell → List Cell
moved x y l = retabled (λ c z. c.table (seen_as x y z)) l

-- every cell has one value at x and y
abbrev pub Same : ℕ → ℕ → List Cell → Type 0
Same x y [] = Unit {0}
Same x y (c ∷ l) = (c.table x ≡ c.table y) × Same x y l

-- with the values of x at y the tables come before; y is not vertex 0
pub record Sooner (v x y : ℕ) (l : List Cell) : Type 0 where
  pub not_zero : y ≡ 0 → ⊥
  pub less : tables_order (tables_of v (moved x y l)) (tables_of v l) ≡ Ordering.lt

-- ======== laws
pub seen_self : (x y z : ℕ) → z ≡ y → seen_as x y z ≡ x
seen_self x y z e = ap (λ (b : Bool). pick b x z) (eq-eqb z y e)

pub seen_other : (x y z : ℕ) → (z ≡ y → ⊥) → seen_as x y z ≡ z
seen_other x y z n = ap (λ (b : Bool). pick b x z) (ne_eqb z y n)

-- ---- one table
-- a list of digits with 1 only where the other has 1, and 0 where it has 1 at some place, comes before it
fewer_less : (a b : List Bool) (k : ℕ)
    → length a ≡ length b
    → ((j : ℕ) → j < length a → get_or a j false ≡ true → get_or b j false ≡ true)
    → get_or a k false ≡ false
    → get_or b k false ≡ true
    → table_order a b ≡ Ordering.lt
unfolding list_order
fewer_less [] [] k e h f g = absurd (true_false (sym g ∙ f))
fewer_less [] (c ∷ b) k e h f g = absurd (omega (arith, e))
fewer_less (c ∷ a) [] k e h f g = absurd (omega (arith, e))
fewer_less (false ∷ a) (true ∷ b) k e h f g = refl
fewer_less (true ∷ a) (false ∷ b) k e h f g = absurd (true_false (sym (h 0 (omega arith) refl)))
fewer_less (true ∷ a) (true ∷ b) zero e h f g = absurd (true_false f)
fewer_less (true ∷ a) (true ∷ b) (suc k) e h f g =
    fewer_less a b k (let q : suc (length a) ≡ suc (length b) = e in omega arith) (λ j l t. h (suc j) (omega arith) t) f g
fewer_less (false ∷ a) (false ∷ b) zero e h f g = absurd (true_false (sym g))
fewer_less (false ∷ a) (false ∷ b) (suc k) e h f g =
    fewer_less a b k (let q : suc (length a) ≡ suc (length b) = e in omega arith) (λ j l t. h (suc j) (omega arith) t) f g

module _ (v x y : ℕ) (t : ℕ → Bool) where
  -- a table that is alike at x and y stays
  alike_stays : t x ≡ t y → values_upto (λ z. t (seen_as x y z)) v ≡ values_upto t v
  alike_stays e = values_same (λ z. t (seen_as x y z)) t v (λ z _. at z (ℕ_discrete z y))
    where
      at : (z : ℕ) → Dec (z ≡ y) → t (seen_as x y z) ≡ t z
      at z (yes q) = ap t (seen_self x y z q) ∙ e ∙ sym (ap t q)
      at z (no n) = ap t (seen_other x y z n)

  -- one that is 0 at x and 1 at y comes before
  fewer_before : y < v → t x ≡ false → t y ≡ true → table_order (values_upto (λ z. t (seen_as x y z)) v) (values_upto t v) ≡ Ordering.lt
  fewer_before h f g =
      fewer_less (values_upto s v) (values_upto t v) y (values_length s v ∙ sym (values_length t v)) below
      (values_at s v y h ∙ ap t (seen_self x y y refl) ∙ f) (values_at t v y h ∙ g)
    where
      s : ℕ → Bool
      s z = t (seen_as x y z)

      at : (z : ℕ) → Dec (z ≡ y) → s z ≡ true → t z ≡ true
      at z (yes q) e = absurd (true_false (sym e ∙ ap t (seen_self x y z q) ∙ f))
      at z (no n) e = sym (ap t (seen_other x y z n)) ∙ e

      below : (z : ℕ) → z < length (values_upto s v) → get_or (values_upto s v) z false ≡ true → get_or (values_upto t v) z false ≡ true
      below z l e =
          let k : z < v = subst (λ (n : ℕ). z < n) (values_length s v) l in
          values_at t v z k ∙ at z (ℕ_discrete z y) (sym (values_at s v z k) ∙ e)

-- ---- all tables of a core
module _ (v : ℕ) where
  later_less : (x y : ℕ) (c : Cell) (l : List Cell) → c.table x ≡ c.table y → Sooner v x y l → Sooner v x y (c ∷ l)
  unfolding retabled tables_of list_order
  later_less x y c l e s = record {
    not_zero = s.not_zero;
    less =
        ap (λ (o : Ordering). then o (tables_order (tables_of v (moved x y l)) (tables_of v l)))
        (ap (λ (a : List Bool). table_order a (values_upto c.table v)) (alike_stays v x y c.table e)
        ∙ table_total.self (values_upto c.table v))
        ∙ s.less;
  }

  first_less : (x y : ℕ) (c : Cell) (l : List Cell)
      → y < v
      → c.table 0 ≡ false
      → c.table x ≡ false
      → c.table y ≡ true
      → Sooner v x y (c ∷ l)
  unfolding retabled tables_of list_order
  first_less x y c l h z f g = record {
    not_zero = λ e. true_false (sym g ∙ ap c.table e ∙ z);
    less =
        ap (λ (o : Ordering). then o (tables_order (tables_of v (moved x y l)) (tables_of v l))) (fewer_before v x y c.table h f g);
  }

  -- a core that is 0 at vertex 0 has one value at x and y in every cell, or tables come before its own
  pub same_or_sooner : (x y : ℕ) (l : List Cell)
      → x < v
      → y < v
      → ZeroFirst l
      → Same x y l ⊎ (Sooner v x y l ⊎ Sooner v y x l)
  same_or_sooner x y [] h k z = inl tt
  same_or_sooner x y (c ∷ l) h k z = go (c.table x) refl (c.table y) refl (same_or_sooner x y l h k z.1)
    where
      alike : c.table x ≡ c.table y → Same x y l ⊎ (Sooner v x y l ⊎ Sooner v y x l) → Same x y (c ∷ l) ⊎ (Sooner v x y (c ∷ l) ⊎ Sooner v y x (c ∷ l))
      alike e = ⊎_elim (λ s. inl (e, s)) (λ r. inr (⊎_elim (λ s. inl (later_less x y c l e s)) (λ s. inr (later_less y x c l (sym e) s)) r))

      go : (a : Bool) → c.table x ≡ a → (b : Bool) → c.table y ≡ b
          → Same x y l ⊎ (Sooner v x y l ⊎ Sooner v y x l)
          → Same x y (c ∷ l) ⊎ (Sooner v x y (c ∷ l) ⊎ Sooner v y x (c ∷ l))
      go true e true f r = alike (e ∙ sym f) r
      go false e false f r = alike (e ∙ sym f) r
      go false e true f r = inr (inl (first_less x y c l k z.0 e f))
      go true e false f r = inr (inr (first_less y x c l h z.0 f e))
