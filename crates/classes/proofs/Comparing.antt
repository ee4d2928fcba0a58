-- The loop that compares two columns free row by free row. Assumes nothing.
use mathlib.Core.Path.{◌≡◌, refl, sym, ◌∙◌}
use mathlib.Core.Bool.{Bool, true, false, not, beq}
use mathlib.Core.List.{List}
use Prim.Native.Nat.{ℕ, ◌+◌, ◌≤◌, ◌<◌}
use native.Mathlib.Omega.{arith}
use borrow.Author.Count.{below_more}
use lib.ListN.{get_or}
use Rattle.bits.specs.LogicLaws.{true_false}
use Rattle.rows.specs.Words.{row_on}
use Rattle.classes.specs.Seen.{seen, same_column}
use Rattle.classes.specs.ColumnLaws.{agree_same, differ_not_same}

-- columns f x and f y agree below i
pub record Agreeing (f : ℕ → ℕ → Bool) (n x y i : ℕ) : Type 0 where
  pub within : i ≤ n
  pub agree : (z : ℕ) → z < i → f x z ≡ f y z

module _ {f : ℕ → ℕ → Bool} {n x y : ℕ} where
  pub agreeing_none : Agreeing f n x y 0
  agreeing_none = record { within = omega arith; agree = λ z h. absurd (omega arith) }

  pub agreeing_more : {i : ℕ} → Agreeing f n x y i → i < n → f x i ≡ f y i → Agreeing f n x y (i + 1)
  agreeing_more {i} a h e = record { within = omega arith; agree = below_more (λ (z : ℕ). f x z ≡ f y z) i a.agree e }

  pub differing : {i : ℕ} → Agreeing f n x y i → i < n → (f x i ≡ f y i → ⊥) → false ≡ same_column f n x y
  differing {i} a h e = sym (differ_not_same f n x y i h e)

  pub agreeing_all : {i : ℕ} → Agreeing f n x y i → n ≤ i → true ≡ same_column f n x y
  agreeing_all a h = sym (agree_same f n x y (λ z l. a.agree z (omega arith)))

-- ---- what the code reads is what is seen
unequal : (a b : Bool) → not (beq a b) ≡ true → a ≡ b → ⊥
unequal true true e q = true_false (sym e)
unequal true false e q = true_false q
unequal false true e q = true_false (sym q)
unequal false false e q = true_false (sym e)

equal_values : (a b : Bool) → not (beq a b) ≡ false → a ≡ b
equal_values true true e = refl
equal_values true false e = absurd (true_false e)
equal_values false true e = absurd (true_false e)
equal_values false false e = refl

module _ (t vertex free : List ℕ) (x y i : ℕ) {v w : Bool}
    (p : v ≡ row_on t (get_or vertex x 0 + get_or free i 0)) (q : w ≡ row_on t (get_or vertex y 0 + get_or free i 0)) where
  pub read_differ : not (beq v w) ≡ true → seen t vertex free x i ≡ seen t vertex free y i → ⊥
  unfolding seen
  read_differ e f = unequal v w e (p ∙ f ∙ sym q)

  pub read_agree : not (beq v w) ≡ false → seen t vertex free x i ≡ seen t vertex free y i
  unfolding seen
  read_agree e = sym p ∙ equal_values v w e ∙ q
