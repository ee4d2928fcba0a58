-- Of two sets of m outputs one is earlier, or they are the same. Assumes nothing.
use Rattle.std.specs.Prelude.{◌≡◌, refl, Bool, true, false, ◌⊎◌, ℕ, zero, suc, ◌^◌, ◌<◌}
use Rattle.std.proofs.Common.{sym, ◌∙◌, inl, inr, arith, below_more}
use Rattle.std.proofs.Math.Decide.{dec_lt}
use Rattle.bits.specs.Digit.{on}
use Rattle.bits.specs.DigitLaws.{on_above, equal_digits}
use Rattle.subsets.specs.Subset.{Earlier}

-- the sets have the same outputs below k
abbrev SameBelow : ℕ → ℕ → ℕ → Type 0
SameBelow s t k = (o : ℕ) → o < k → on s o ≡ on t o

pub same_or_earlier : (m s t : ℕ) → s < 2 ^ m → t < 2 ^ m → (s ≡ t) ⊎ (Earlier s t ⊎ Earlier t s)
same_or_earlier m s t a b = go (compared m)
  where
    compared : (k : ℕ) → SameBelow s t k ⊎ (Earlier s t ⊎ Earlier t s)
    compared zero = inl (λ o h. absurd (omega arith))
    compared (suc k) = go (compared k)
      where
        at : SameBelow s t k → (a : Bool) → on s k ≡ a → (b : Bool) → on t k ≡ b → SameBelow s t (suc k) ⊎ (Earlier s t ⊎ Earlier t s)
        at h true e true f = inl (λ o l. below_more (λ (o : ℕ). on s o ≡ on t o) k h (e ∙ sym f) o (omega (arith, l)))
        at h false e false f = inl (λ o l. below_more (λ (o : ℕ). on s o ≡ on t o) k h (e ∙ sym f) o (omega (arith, l)))
        at h true e false f = inr (inl (record { place = k; in_first = e; not_in_second = f; same_below = h }))
        at h false e true f = inr (inr (record { place = k; in_first = f; not_in_second = e; same_below = λ o l. sym (h o l) }))

        go : SameBelow s t k ⊎ (Earlier s t ⊎ Earlier t s) → SameBelow s t (suc k) ⊎ (Earlier s t ⊎ Earlier t s)
        go (inl h) = at h (on s k) refl (on t k) refl
        go (inr e) = inr e

    all_same : SameBelow s t m → (o : ℕ) → on s o ≡ on t o
    all_same h o =
        elim (dec_lt o m) as (λ _. on s o ≡ on t o) [
          | yes l ↦ h o l
          | no n ↦ on_above m s o a (omega (arith, n)) ∙ sym (on_above m t o b (omega (arith, n)))
        ]

    go : SameBelow s t m ⊎ (Earlier s t ⊎ Earlier t s) → (s ≡ t) ⊎ (Earlier s t ⊎ Earlier t s)
    go (inl h) = inl (equal_digits s t (all_same h))
    go (inr e) = inr e
