-- Columns as laws: two lists of values are apart exactly when they differ at some place, so two vertices conflict exactly
-- when the output has different values at some free row; equal columns are those that do not conflict, and they are an
-- equivalence, for any columns.
-- Assumes nothing.
use Rattle.std.specs.Prelude.{◌≡◌, Bool, false, not, ◌&&◌, ◌||◌, List, [], ◌∷◌, ◌++◌, length}
use Rattle.std.proofs.Math.Path.{refl, sym}
use Rattle.std.proofs.Common.{ap, ap₂, ◌∙◌, arith}
use Rattle.std.proofs.Math.Logic.{⊎_elim}
use Rattle.std.proofs.Math.Bool.{true}
use Rattle.std.specs.Bool.{beq}
use Prim.Native.Nat.{ℕ, zero, suc, ◌<◌}
use Rattle.std.proofs.lemmas.Bool.{not-true}
use Rattle.bits.specs.Logic.{xorb}
use Rattle.bits.specs.LogicLaws.{true_false, and_left, and_right, and_both, neither_first, neither_second, or_assoc, or_false, xor_self, either}
use Rattle.names.specs.Name.{Name}
use Rattle.sheet.specs.Examine.{Design}
use Rattle.classes.specs.Cases.{not_both}
use Rattle.classes.specs.Columns.{free_count, value_at, column, same_values, apart, conflict, alike, alike_upto}
use Rattle.bits.specs.Values.{values_upto}
use Rattle.bits.specs.ValuesLaws.{values_length, values_same}
use Rattle.bits.specs.CountLaws.{less_or_equal}
use Rattle.classes.specs.Seen.{same_column}
use Rattle.classes.specs.ClassLaws.{Equivalence}

-- ---- two values
xor_equal : (a b : Bool) → xorb a b ≡ false → a ≡ b
xor_equal true true e = refl
xor_equal true false e = absurd (true_false e)
xor_equal false true e = absurd (true_false e)
xor_equal false false e = refl

equal_or_xor : (a b c d : Bool) → c ≡ not d → beq a b && c ≡ not (xorb a b || d)
equal_or_xor true true c d e = e
equal_or_xor true false c d e = refl
equal_or_xor false true c d e = refl
equal_or_xor false false c d e = e

-- ---- two lists
apart_self : (us : List Bool) → apart us us ≡ false
unfolding apart
apart_self [] = refl
apart_self (u ∷ us) = rw (xor_self u) (apart_self us)

apart-last : (us vs : List Bool) (u v : Bool) → length us ≡ length vs
    → apart (us ++ (u ∷ [])) (vs ++ (v ∷ [])) ≡ (apart us vs || xorb u v)
unfolding apart
apart-last [] [] u v n = or_false (xorb u v)
apart-last [] (b ∷ vs) u v n = absurd (omega arith)
apart-last (a ∷ us) [] u v n = absurd (omega arith)
apart-last (a ∷ us) (b ∷ vs) u v n =
    ap (λ (t : Bool). xorb a b || t) (apart-last us vs u v (omega arith)) ∙ or_assoc (xorb a b) (apart us vs) (xorb u v)

-- two lists of one length are equal or apart
same_not_apart : (us vs : List Bool) → length us ≡ length vs → same_values us vs ≡ not (apart us vs)
unfolding same_values apart
same_not_apart [] [] n = refl
same_not_apart [] (v ∷ vs) n = absurd (omega arith)
same_not_apart (u ∷ us) [] n = absurd (omega arith)
same_not_apart (u ∷ us) (v ∷ vs) n =
    equal_or_xor u v (same_values us vs) (apart us vs) (same_not_apart us vs (omega arith))

-- ---- two lists of values up to n
-- a place at which two columns differ
pub record Differ (f g : ℕ → Bool) (n : ℕ) : Type 0 where
  pub place : ℕ
  pub below : place < n
  pub different : f place ≡ g place → ⊥

module _ (f g : ℕ → Bool) where
  apart_more : (n : ℕ) → apart (values_upto f (suc n)) (values_upto g (suc n)) ≡ (apart (values_upto f n) (values_upto g n) || xorb (f n) (g n))
  unfolding values_upto
  apart_more n =
      apart-last (values_upto f n) (values_upto g n) (f n) (g n) (values_length f n ∙ sym (values_length g n))

  -- columns that agree everywhere are not apart
  agree_apart : (n : ℕ) → ((i : ℕ) → i < n → f i ≡ g i) → apart (values_upto f n) (values_upto g n) ≡ false
  agree_apart n h = rw (values_same f g n h) (apart_self (values_upto g n))

  apart_agree : (n : ℕ) → apart (values_upto f n) (values_upto g n) ≡ false → (i : ℕ) → i < n → f i ≡ g i
  apart_agree zero e i l = absurd (omega arith)
  apart_agree (suc n) e i l =
      let q : apart (values_upto f n) (values_upto g n) || xorb (f n) (g n) ≡ false = sym (apart_more n) ∙ e in
      ⊎_elim
      (λ below. apart_agree n (neither_first (apart (values_upto f n) (values_upto g n)) (xorb (f n) (g n)) q) i below)
      (λ last. rw last (xor_equal (f n) (g n) (neither_second (apart (values_upto f n) (values_upto g n)) (xorb (f n) (g n)) q)))
      (less_or_equal i n l)

  -- columns that differ somewhere are
  differ_apart : (n i : ℕ) → i < n → (f i ≡ g i → ⊥) → apart (values_upto f n) (values_upto g n) ≡ true
  differ_apart n i l h =
      ⊎_elim
      (λ e. e)
      (λ e. absurd (h (apart_agree n e i l)))
      (either (apart (values_upto f n) (values_upto g n)))

  apart_differ : (n : ℕ) → apart (values_upto f n) (values_upto g n) ≡ true → Differ f g n
  unfolding values_upto apart
  apart_differ zero e = absurd (true_false (sym e))
  apart_differ (suc n) e =
      ⊎_elim
      (λ before.
      let p : Differ f g n = apart_differ n before in
      let l : p.place < n = p.below in
      record { place = p.place; below = omega arith; different = p.different })
      (λ before.
      let x : xorb (f n) (g n) ≡ true = rw before at (sym (apart_more n) ∙ e) in
      record {
        place = n;
        below = omega arith;
        different = λ q. not_both (xorb (f n) (g n)) x (rw q (xor_self (g n)));
      })
      (either (apart (values_upto f n) (values_upto g n)))

-- ---- equal columns are those that are not apart, and an equivalence, whatever column f x each number x has
module _ (f : ℕ → ℕ → Bool) (n : ℕ) where
  column_not_apart : (x y : ℕ) → same_column f n x y ≡ not (apart (values_upto (f x) n) (values_upto (f y) n))
  unfolding same_column
  column_not_apart x y =
      same_not_apart (values_upto (f x) n) (values_upto (f y) n) (values_length (f x) n ∙ sym (values_length (f y) n))

  same_agree : (x y : ℕ) → same_column f n x y ≡ true → (i : ℕ) → i < n → f x i ≡ f y i
  same_agree x y e =
      apart_agree (f x) (f y) n (not-true (apart (values_upto (f x) n) (values_upto (f y) n)) (sym (column_not_apart x y) ∙ e))

  pub agree_same : (x y : ℕ) → ((i : ℕ) → i < n → f x i ≡ f y i) → same_column f n x y ≡ true
  agree_same x y h = column_not_apart x y ∙ ap not (agree_apart (f x) (f y) n h)

  pub differ_not_same : (x y i : ℕ) → i < n → (f x i ≡ f y i → ⊥) → same_column f n x y ≡ false
  differ_not_same x y i l h = column_not_apart x y ∙ ap not (differ_apart (f x) (f y) n i l h)

  pub same-column : Equivalence (same_column f n)
  same-column =
      record {
        self = λ x. agree_same x x (λ i l. refl);
        back = λ x y e. agree_same y x (λ i l. sym (same_agree x y e i l));
        chain = λ x y z e g. agree_same x z (λ i l. same_agree x y e i l ∙ same_agree y z g i l);
      }

-- columns that are the same give the same relation
pub same_columns : (f g : ℕ → ℕ → Bool) (n x y : ℕ) → ((i : ℕ) → i < n → f x i ≡ g x i) → ((i : ℕ) → i < n → f y i ≡ g y i)
    → same_column f n x y ≡ same_column g n x y
unfolding same_column
same_columns f g n x y p q =
    ap₂ same_values (values_same (f x) (g x) n p) (values_same (f y) (g y) n q)

-- related in two ways at once
both_equivalence : (r s : ℕ → ℕ → Bool) → Equivalence r → Equivalence s → Equivalence (λ x y. r x y && s x y)
both_equivalence r s p q =
    record {
      self = λ x. and_both (r x x) (s x x) (p.self x) (q.self x);
      back = λ x y e.
          and_both (r y x) (s y x)
          (p.back x y (and_left (r x y) (s x y) e))
          (q.back x y (and_right (r x y) (s x y) e));
      chain = λ x y z e g.
          and_both (r x z) (s x z)
          (p.chain x y z (and_left (r x y) (s x y) e) (and_left (r y z) (s y z) g))
          (q.chain x y z (and_right (r x y) (s x y) e) (and_right (r y z) (s y z) g));
    }

-- ---- vertices of a design
module _ (d : Design) (bs : List Name) where
  pub conflict_differ : (o x y : ℕ) → conflict d bs o x y ≡ true → Differ (value_at d bs o x) (value_at d bs o y) (free_count d.inputs bs)
  unfolding conflict column
  conflict_differ o x y e = apart_differ (value_at d bs o x) (value_at d bs o y) (free_count d.inputs bs) e

  pub differ_conflict : (o x y i : ℕ) → i < free_count d.inputs bs
      → (value_at d bs o x i ≡ value_at d bs o y i → ⊥) → conflict d bs o x y ≡ true
  unfolding conflict column
  differ_conflict o x y i l h = differ_apart (value_at d bs o x) (value_at d bs o y) (free_count d.inputs bs) i l h

  pub no_conflict_agree : (o x y : ℕ) → conflict d bs o x y ≡ false
      → (i : ℕ) → i < free_count d.inputs bs → value_at d bs o x i ≡ value_at d bs o y i
  unfolding conflict column
  no_conflict_agree o x y e i l = apart_agree (value_at d bs o x) (value_at d bs o y) (free_count d.inputs bs) e i l

  pub agree_no_conflict : (o x y : ℕ) → ((i : ℕ) → i < free_count d.inputs bs → value_at d bs o x i ≡ value_at d bs o y i)
      → conflict d bs o x y ≡ false
  unfolding conflict column
  agree_no_conflict o x y h = agree_apart (value_at d bs o x) (value_at d bs o y) (free_count d.inputs bs) h

  pub alike_columns : (o x y : ℕ) → alike d bs o x y ≡ same_column (value_at d bs o) (free_count d.inputs bs) x y
  unfolding alike column same_column
  alike_columns o x y = refl

  -- equal columns are those without a conflict
  alike_not_conflict : (o x y : ℕ) → alike d bs o x y ≡ not (conflict d bs o x y)
  unfolding conflict column
  alike_not_conflict o x y = alike_columns o x y ∙ column_not_apart (value_at d bs o) (free_count d.inputs bs) x y

  pub alike_no_conflict : (o x y : ℕ) → alike d bs o x y ≡ true → conflict d bs o x y ≡ false
  alike_no_conflict o x y e = not-true (conflict d bs o x y) (sym (alike_not_conflict o x y) ∙ e)

  pub no_conflict_alike : (o x y : ℕ) → conflict d bs o x y ≡ false → alike d bs o x y ≡ true
  no_conflict_alike o x y e = alike_not_conflict o x y ∙ ap not e

  -- vertices alike in one output are an equivalence, and so are vertices alike in the first m
  pub alike_equivalence : (o : ℕ) → Equivalence (alike d bs o)
  unfolding alike column same_column
  alike_equivalence o = same-column (value_at d bs o) (free_count d.inputs bs)

  pub upto_equivalence : (m : ℕ) → Equivalence (alike_upto d bs m)
  unfolding alike_upto
  upto_equivalence zero = record { self = λ x. refl; back = λ x y e. refl; chain = λ x y z e g. refl }
  upto_equivalence (suc m) = both_equivalence (alike_upto d bs m) (alike d bs m) (upto_equivalence m) (alike_equivalence m)
