-- What a test of every number below n says of each of them. Assumes nothing.
use Rattle.std.specs.Prelude.{◌≡◌, refl, Bool, true, false, ℕ, zero, suc, ◌<◌}
use Rattle.std.proofs.Common.{subst, sym, ⊎_elim, arith}
use Rattle.bits.specs.LogicLaws.{true_false, and_left, and_right}
use Rattle.bits.specs.CountLaws.{less_or_equal}
use Rattle.bits.specs.Every.{every, same}

pub every_at : (t : ℕ → Bool) (n : ℕ) → every t n ≡ true → (k : ℕ) → k < n → t k ≡ true
unfolding every
every_at t zero e k h = absurd (omega arith)
every_at t (suc n) e k h =
    ⊎_elim
    (λ l. every_at t n (and_right (t n) (every t n) e) k l)
    (λ q. subst (λ (m : ℕ). t m ≡ true) (sym q) (and_left (t n) (every t n) e))
    (less_or_equal k n h)

pub same_equal : (a b : Bool) → same a b ≡ true → a ≡ b
same_equal true true e = refl
same_equal true false e = absurd (true_false (sym e))
same_equal false true e = absurd (true_false (sym e))
same_equal false false e = refl
