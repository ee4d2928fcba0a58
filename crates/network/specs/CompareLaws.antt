-- The comparison of a network with a design: "same" exactly where they agree in every output on every row, else the lowest
-- output that does not agree, and its lowest row. Assumes nothing.
use Rattle.std.specs.Prelude.{◌≡◌, ◌⊎◌, Bool, true, false, not, length}
use Rattle.std.proofs.Math.Path.{refl}
use Rattle.std.proofs.Common.{sym, ap, ◌∙◌, inl, inr, arith}
use Rattle.std.proofs.Math.Option.{Option, some, none}
use Prim.Native.Nat.{ℕ, zero, suc, ◌^◌, ◌<◌}
use Rattle.std.proofs.lemmas.Bool.{not-false}
use Rattle.bits.specs.Logic.{xorb}
use Rattle.bits.specs.LogicLaws.{true_false}
use Rattle.sheet.specs.Examine.{Design}
use Rattle.sheet.specs.Value.{output_on}
use Rattle.network.specs.Network.{Network}
use Rattle.network.specs.Value.{network_on}
use Rattle.network.specs.Check.{Checked, same, differs, first_of, differs_on, differing_row, at_row, compare_from}
use Rattle.network.specs.Answers.{Computes, LowestDifference}
use Rattle.network.specs.Check.{compared}
use Rattle.network.specs.FirstOfLaws.{none_fails, fails_none, FirstAt, some_first, first_some}

-- ---- two values
pub xor_none : (a b : Bool) → xorb a b ≡ false → b ≡ a
xor_none true b e = not-false b e
xor_none false b e = e

none_xor : (a b : Bool) → b ≡ a → xorb a b ≡ false
none_xor true b e = ap not e
none_xor false b e = e

pub xor_some : (a b : Bool) → xorb a b ≡ true → b ≡ a → ⊥
xor_some a b e q = true_false (sym e ∙ none_xor a b q)

some_xor : (a b : Bool) → (b ≡ a → ⊥) → xorb a b ≡ true
some_xor true true h = absurd (h refl)
some_xor true false h = refl
some_xor false true h = refl
some_xor false false h = absurd (h refl)

same_differs : {o r : ℕ} → same ≡ differs o r → ⊥
same_differs e =
    let z : ◌≡◌ {A = ℕ} 0 1 = cc in
    omega arith

differs_output : {o p r q : ℕ} → differs o r ≡ differs p q → o ≡ p
differs_output e = cc

differs_row : {o p r q : ℕ} → differs o r ≡ differs p q → r ≡ q
differs_row e = cc

module _ (d : Design) (w : Network) where
  -- ---- the rows of an output
  abbrev row_count : ℕ
  row_count = 2 ^ length d.inputs

  abbrev Agree : ℕ → ℕ → Type 0
  Agree o r = network_on d w o r ≡ output_on d o r

  agree : (o r : ℕ) → differs_on d w o r ≡ false → Agree o r
  unfolding differs_on
  agree o r e = xor_none (output_on d o r) (network_on d w o r) e

  agreeing : (o r : ℕ) → Agree o r → differs_on d w o r ≡ false
  unfolding differs_on
  agreeing o r e = none_xor (output_on d o r) (network_on d w o r) e

  apart : (o r : ℕ) → differs_on d w o r ≡ true → Agree o r → ⊥
  unfolding differs_on
  apart o r e = xor_some (output_on d o r) (network_on d w o r) e

  differing : (o r : ℕ) → (Agree o r → ⊥) → differs_on d w o r ≡ true
  unfolding differs_on
  differing o r h = some_xor (output_on d o r) (network_on d w o r) h

  row_none : (o : ℕ) → differing_row d w o ≡ none → (r : ℕ) → r < row_count → Agree o r
  unfolding differing_row
  row_none o e r h = agree o r (none_fails (differs_on d w o) row_count 0 e r (omega arith) (omega arith))

  none_row : (o : ℕ) → ((r : ℕ) → r < row_count → Agree o r) → differing_row d w o ≡ none
  unfolding differing_row
  none_row o h = fails_none (differs_on d w o) row_count 0 (λ r l m. agreeing o r (h r (omega arith)))

  row-some : (o r : ℕ) → differing_row d w o ≡ some r → FirstAt (differs_on d w o) row_count 0 r
  unfolding differing_row
  row-some o r e = some_first (differs_on d w o) row_count 0 r e

  some-row : (o r : ℕ) → FirstAt (differs_on d w o) row_count 0 r → differing_row d w o ≡ some r
  unfolding differing_row
  some-row o r f = first_some (differs_on d w o) row_count 0 r f

  -- ---- the outputs: the first that differs somewhere
  abbrev is_there : Option ℕ → Bool
  is_there none = false
  is_there (some r) = true

  abbrev somewhere : ℕ → Bool
  somewhere o = is_there (differing_row d w o)

  abbrev verdict : Option ℕ → Checked
  verdict none = same
  verdict (some o) = at_row o (differing_row d w o) same

  compare_first : (k o : ℕ) → compare_from d w k o ≡ verdict (first_of somewhere k o)
  unfolding compare_from first_of
  compare_first zero o = refl
  compare_first (suc k) o = go (differing_row d w o) refl (compare_first k (suc o))
    where
      go : (x : Option ℕ)
          → differing_row d w o ≡ x
          → compare_from d w k (suc o) ≡ verdict (first_of somewhere k (suc o))
          → compare_from d w (suc k) o ≡ verdict (first_of somewhere (suc k) o)
      go none e h = rw e h
      go (some r) e h = rw e (rw e refl)

  there : (o : ℕ) → somewhere o ≡ true → (r : ℕ) × (differing_row d w o ≡ some r)
  there o e = go (differing_row d w o) refl
    where
      go : (x : Option ℕ) → differing_row d w o ≡ x → (r : ℕ) × (differing_row d w o ≡ some r)
      go none q = absurd (true_false (sym e ∙ ap is_there q))
      go (some r) q = (r, q)

  nowhere : (o : ℕ) → somewhere o ≡ false → differing_row d w o ≡ none
  nowhere o e = go (differing_row d w o) refl
    where
      go : (x : Option ℕ) → differing_row d w o ≡ x → differing_row d w o ≡ none
      go none q = q
      go (some r) q = absurd (true_false (sym (ap is_there q) ∙ e))

  -- the first output that differs somewhere, and its row
  verdict_at : (o : ℕ)
      → FirstAt somewhere (length d.outputs) 0 o
      → (r : ℕ) × (differing_row d w o ≡ some r) × (verdict (some o) ≡ differs o r)
  verdict_at o f =
      let (r, e) = there o f.passes in
      (r, e, ap (λ (x : Option ℕ). at_row o x same) e)

  lowest : (o r : ℕ)
      → FirstAt somewhere (length d.outputs) 0 o
      → differing_row d w o ≡ some r
      → LowestDifference d w o r
  lowest o r f e =
      let s = row-some o r e in
      record {
        is_output = omega (arith, f.high);
        is_row = omega (arith, s.high);
        apart = apart o r s.passes;
        rows_below = λ q h. agree o q (s.before q (omega arith) h);
        outputs_below = λ p q h i. row_none p (nowhere p (f.before p (omega arith) h)) q i;
      }

  lowest_as : (o r p t : ℕ) → differs p t ≡ differs o r → LowestDifference d w p t → LowestDifference d w o r
  lowest_as o r p t e f = rw (differs_output e, differs_row e) at f

  first_lowest : (o r : ℕ) → LowestDifference d w o r → FirstAt (differs_on d w o) row_count 0 r
  first_lowest o r f =
      record {
        low = omega arith;
        high = omega (arith, f.is_row);
        passes = differing o r f.apart;
        before = λ m l h. agreeing o m (f.rows_below m h);
      }

  -- ---- the comparison
  found_by : (x : Option ℕ) → first_of somewhere (length d.outputs) 0 ≡ x → compared d w ≡ verdict x
  found_by x e = compare_first (length d.outputs) 0 ∙ ap verdict e

  pub same_or_differs : (compared d w ≡ same) ⊎ ((o : ℕ) × (r : ℕ) × (compared d w ≡ differs o r))
  same_or_differs = go (first_of somewhere (length d.outputs) 0) refl
    where
      go : (x : Option ℕ)
          → first_of somewhere (length d.outputs) 0 ≡ x
          → (compared d w ≡ same) ⊎ ((o : ℕ) × (r : ℕ) × (compared d w ≡ differs o r))
      go none q = inl (found_by none q)
      go (some o) q =
          let (r, f, v) = verdict_at o (some_first somewhere (length d.outputs) 0 o q) in
          inr (o, r, found_by (some o) q ∙ v)

  pub compared_same : compared d w ≡ same → Computes d w
  compared_same e = go (first_of somewhere (length d.outputs) 0) refl
    where
      go : (x : Option ℕ) → first_of somewhere (length d.outputs) 0 ≡ x → Computes d w
      go none q =
          record {
            agrees = λ o r h i.
                row_none o (nowhere o (none_fails somewhere (length d.outputs) 0 q o (omega arith) (omega arith))) r i;
          }
      go (some o) q =
          let (r, f, v) = verdict_at o (some_first somewhere (length d.outputs) 0 o q) in
          absurd (same_differs (sym e ∙ found_by (some o) q ∙ v))

  pub same-compared : Computes d w → compared d w ≡ same
  same-compared f =
      found_by none
      (fails_none somewhere (length d.outputs) 0
      (λ o l h. ap is_there (none_row o (λ r i. f.agrees o r (omega arith) i))))

  pub compared_differs : (o r : ℕ) → compared d w ≡ differs o r → LowestDifference d w o r
  compared_differs o r e = go (first_of somewhere (length d.outputs) 0) refl
    where
      go : (x : Option ℕ) → first_of somewhere (length d.outputs) 0 ≡ x → LowestDifference d w o r
      go none q = absurd (same_differs (sym (found_by none q) ∙ e))
      go (some p) q =
          let f = some_first somewhere (length d.outputs) 0 p q in
          let (t, g, v) = verdict_at p f in
          lowest_as o r p t (sym v ∙ sym (found_by (some p) q) ∙ e) (lowest p t f g)

  pub differs_compared : (o r : ℕ) → LowestDifference d w o r → compared d w ≡ differs o r
  differs_compared o r f =
      let e = some-row o r (first_lowest o r f) in
      found_by (some o)
      (first_some somewhere (length d.outputs) 0 o
      (record {
        low = omega arith;
        high = omega (arith, f.is_output);
        passes = ap is_there e;
        before = λ p l h. ap is_there (none_row p (λ q i. f.outputs_below p q h i));
      }))
      ∙ ap (λ (x : Option ℕ). at_row o x same) e
