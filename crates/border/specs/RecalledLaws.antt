-- What is remembered of one problem holds of another with the same labels, given tables and vertices: the cache speaks of no more.
-- Assumes nothing.
use Rattle.std.specs.Prelude.{◌≡◌, ℕ, true, false, List}
use Rattle.std.proofs.Common.{ap, ◌∙◌, subst, inl, inr}
use Rattle.bits.specs.Digit.{on}
use Rattle.bits.specs.DigitLaws.{on_zero}
use Rattle.bits.specs.LogicLaws.{never_both}
use Rattle.cache.specs.Cache.{Honest}
use Rattle.border.specs.Line.{ZeroFirst}

-- vertex 0 is not known to be 1
pub first_free : (kn val : ℕ) → ZeroFirst kn val → on kn 0 ≡ true → on val 0 ≡ false
first_free kn val (inl e) h = absurd (never_both h (ap (λ (k : ℕ). on k 0) e ∙ on_zero 0))
first_free kn val (inr q) h = q.1

pub honest_same : (a a' b b' : List ℕ) (kn val v v' : ℕ) (mem : List ℕ) → a ≡ a' → b ≡ b' → v ≡ v' → Honest a b kn val v mem → Honest a' b' kn val v' mem
honest_same a a' b b' kn val v v' mem p q e h =
    subst (λ (v : ℕ). Honest a' b' kn val v mem) e (subst (λ (b : List ℕ). Honest a' b kn val v mem) q (subst (λ (a : List ℕ). Honest a b kn val v mem) p h))
