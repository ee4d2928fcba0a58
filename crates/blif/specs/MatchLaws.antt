-- A table's cover is 1 on just the rows of value 1: a cover line of a row matches the values of that row and no others.
-- Assumes nothing.
use Rattle.std.specs.Prelude.{◌≡◌, Bool, ◌&&◌, ◌||◌, length, get_or}
use Rattle.std.proofs.Math.Path.{refl, ap, ap₂}
use Rattle.std.proofs.Common.{sym, ◌∙◌, arith}
use Rattle.std.proofs.Math.Bool.{true, false}
use Rattle.std.specs.Bool.{beq}
use mathlib.Core.List.{List, [], ◌∷◌, map}
use Prim.Native.Nat.{ℕ, zero, suc, ◌+◌, ◌^◌, ◌<◌}
use Rattle.bits.specs.LogicLaws.{and_left, and_right, and_both, beq_self, beq_equal, false_unless}
use Rattle.rows.specs.Row.{row_of, values_of}
use Rattle.rows.specs.RowLaws.{values_row, length_values, row_values}
use Rattle.blif.specs.Model.{must_be}
use Rattle.blif.specs.Value.{matches, covers}
use Rattle.blif.specs.Modelled.{cover_of}

-- ---- a cover line
matches_self : (vs : List Bool) → matches (map must_be vs) vs ≡ true
matches_self [] = refl
matches_self (v ∷ vs) = and_both (beq v v) (matches (map must_be vs) vs) (beq_self v) (matches_self vs)

matches_equal : (vs us : List Bool) → length vs ≡ length us → matches (map must_be vs) us ≡ true → vs ≡ us
matches_equal [] [] l e = refl
matches_equal [] (u ∷ us) l e = absurd (omega (arith, l))
matches_equal (v ∷ vs) [] l e = absurd (omega (arith, l))
matches_equal (v ∷ vs) (u ∷ us) l e =
    let m = matches (map must_be vs) us in
    ap₂ (λ (b : Bool) (k : List Bool). b ∷ k)
    (beq_equal v u (and_left (beq v u) m e))
    (matches_equal vs us (omega (arith, l)) (and_right (beq v u) m e))

-- ---- a line that is there where the row's value v is 1, and then other lines
row-matched : (v : Bool) → v && true || false ≡ v
row-matched true = refl
row-matched false = refl

row_unmatched : (v later : Bool) → v && false || later ≡ later
row_unmatched true later = refl
row_unmatched false later = refl

module _ (us : List Bool) where
  abbrev matched : ℕ → Bool
  matched r = matches (map must_be (values_of (length us) r)) us

  own_row : (r : ℕ) → row_of us ≡ r → matched r ≡ true
  own_row r e =
      ap (λ (vs : List Bool). matches (map must_be vs) us) (ap (values_of (length us)) (sym e) ∙ values_row us) ∙ matches_self us

  other_row : (r : ℕ) → r < 2 ^ length us → (row_of us ≡ r → ⊥) → matched r ≡ false
  other_row r l h =
      false_unless (matched r)
      (λ e.
      let same : values_of (length us) r ≡ us = matches_equal (values_of (length us) r) us (length_values (length us) r) e in
      h (ap row_of (sym same) ∙ row_values (length us) r l))

  -- ---- a cover, from row r on
  covers_step : (r : ℕ) (v : Bool) (ds : List Bool)
      → covers (cover_of (length us) r (v ∷ ds)) us ≡ v && matched r || covers (cover_of (length us) (suc r) ds) us
  unfolding cover_of covers
  covers_step r true ds = refl
  covers_step r false ds = refl

  rows_over : (r : ℕ) (ds : List Bool) → row_of us < r → r + length ds ≡ 2 ^ length us → covers (cover_of (length us) r ds) us ≡ false
  unfolding cover_of covers
  rows_over r [] h l = refl
  rows_over r (v ∷ ds) h l =
      covers_step r v ds
      ∙ ap₂ (λ (a b : Bool). v && a || b)
      (other_row r (omega (arith, l)) (λ e. omega (arith, e)))
      (rows_over (suc r) ds (omega arith) (omega (arith, l)))
      ∙ row_unmatched v false

  covers-row : (r k : ℕ) (ds : List Bool)
      → row_of us ≡ r + k
      → r + length ds ≡ 2 ^ length us
      → covers (cover_of (length us) r ds) us ≡ get_or ds k false
  unfolding cover_of covers
  covers-row r k [] h l = refl
  covers-row r zero (v ∷ ds) h l =
      covers_step r v ds
      ∙ ap₂ (λ (a b : Bool). v && a || b) (own_row r (omega (arith, h))) (rows_over (suc r) ds (omega (arith, h)) (omega (arith, l)))
      ∙ row-matched v
  covers-row r (suc k) (v ∷ ds) h l =
      covers_step r v ds
      ∙ ap (λ (a : Bool). v && a || covers (cover_of (length us) (suc r) ds) us)
      (other_row r (omega (arith, l)) (λ e. omega (arith, h, e)))
      ∙ row_unmatched v (covers (cover_of (length us) (suc r) ds) us)
      ∙ covers-row (suc r) k ds (omega (arith, h)) (omega (arith, l))

pub cover_row : (ds us : List Bool) → length ds ≡ 2 ^ length us → covers (cover_of (length us) 0 ds) us ≡ get_or ds (row_of us) false
cover_row ds us l = covers-row us 0 (row_of us) ds (omega arith) (omega (arith, l))
