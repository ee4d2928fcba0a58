-- The first of some numbers that passes a test: there is none exactly where each fails, and else it passes and each before
-- it fails. Assumes nothing.
use Rattle.std.specs.Prelude.{◌≡◌, Bool}
use Rattle.std.proofs.Math.Path.{refl}
use Rattle.std.proofs.Common.{sym, ap, ◌∙◌, arith}
use Rattle.std.proofs.Math.Bool.{true, false}
use Rattle.std.proofs.Math.Option.{some, none}
use Prim.Native.Nat.{ℕ, zero, suc, ◌+◌, ◌≤◌, ◌<◌}
use Rattle.std.proofs.Math.Decide.{ℕ_discrete}
use Rattle.network.specs.Check.{first_of}

pub some_none : {A : Type 0} {a : A} → some a ≡ none → ⊥
some_none e =
    let z : ◌≡◌ {A = ℕ} 0 1 = cc in
    omega arith

pub some_is : {A : Type 0} {a b : A} → some a ≡ some b → a ≡ b
some_is e = cc

module _ (f : ℕ → Bool) where
  first_here : (k i : ℕ) → f i ≡ true → first_of f (suc k) i ≡ some i
  unfolding first_of
  first_here k i e = rw e refl

  first_later : (k i : ℕ) → f i ≡ false → first_of f (suc k) i ≡ first_of f k (suc i)
  unfolding first_of
  first_later k i e = rw e refl

  -- ---- none
  -- what holds at i and after it
  from-here : (P : ℕ → Type 0) (i j : ℕ) → P i → (suc i ≤ j → P j) → i ≤ j → P j
  from-here P i j p q h = elim (ℕ_discrete j i) as (λ _. P j) [ yes e ↦ rw e p | no e ↦ q (omega arith) ]

  pub none_fails : (k i : ℕ) → first_of f k i ≡ none → (j : ℕ) → i ≤ j → j < i + k → f j ≡ false
  none_fails zero i e j l h = absurd (omega arith)
  none_fails (suc k) i e j l h = go (f i) refl (λ q m. none_fails k (suc i) q j m (omega arith))
    where
      go : (x : Bool) → f i ≡ x → (first_of f k (suc i) ≡ none → suc i ≤ j → f j ≡ false) → f j ≡ false
      go true q r = absurd (some_none (sym (first_here k i q) ∙ e))
      go false q r = from-here (λ (m : ℕ). f m ≡ false) i j q (λ m. r (sym (first_later k i q) ∙ e) m) l

  pub fails_none : (k i : ℕ) → ((j : ℕ) → i ≤ j → j < i + k → f j ≡ false) → first_of f k i ≡ none
  unfolding first_of
  fails_none zero i h = refl
  fails_none (suc k) i h =
      first_later k i (h i (omega arith) (omega arith))
      ∙ fails_none k (suc i) (λ j l m. h j (omega arith) (omega arith))

  -- ---- some
  -- j is the first of the k numbers from i on
  pub record FirstAt (k i j : ℕ) : Type 0 where
    pub low : i ≤ j
    pub high : j < i + k
    pub passes : f j ≡ true
    pub before : (m : ℕ) → i ≤ m → m < j → f m ≡ false

  pub some_first : (k i j : ℕ) → first_of f k i ≡ some j → FirstAt k i j
  unfolding first_of
  some_first zero i j e = absurd (some_none (sym e))
  some_first (suc k) i j e = go (f i) refl (λ q. some_first k (suc i) j q)
    where
      go : (x : Bool) → f i ≡ x → (first_of f k (suc i) ≡ some j → FirstAt k (suc i) j) → FirstAt (suc k) i j
      go true q r =
          let p : i ≡ j = some_is (sym (first_here k i q) ∙ e) in
          record { low = omega arith; high = omega arith; passes = rw p at q; before = λ m l h. absurd (omega arith) }
      go false q r =
          let s = r (sym (first_later k i q) ∙ e) in
          record {
            low = omega arith;
            high = omega arith;
            passes = s.passes;
            before = λ m l h. from-here (λ (n : ℕ). f n ≡ false) i m q (λ a. s.before m a h) l;
          }

  pub first_some : (k i j : ℕ) → FirstAt k i j → first_of f k i ≡ some j
  first_some zero i j s = absurd (omega arith)
  first_some (suc k) i j s =
      elim (ℕ_discrete i j) as (λ _. first_of f (suc k) i ≡ some j) [
        | yes e ↦ first_here k i (rw e s.passes) ∙ ap some e
        | no d ↦
            first_later k i (s.before i (omega arith) (omega arith))
            ∙ first_some k (suc i) j
            (record { low = omega arith; high = omega arith; passes = s.passes; before = λ m l h. s.before m (omega arith) h })
      ]
