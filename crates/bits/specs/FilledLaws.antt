-- Filling an array: nothing is asked before the first number, a loop's turn fills one number more, and what is filled so far has all
-- that fewer numbers have. Assumes nothing.
use Rattle.std.specs.Prelude.{◌≡◌, List, ℕ, ◌+◌, ◌≤◌, ◌<◌, length, get_or, set}
use Rattle.std.proofs.Common.{sym, ◌∙◌, subst, ⊎_elim, arith, length-set, get_or-set_same, get_or-set_other}
use Rattle.bits.specs.CountLaws.{less_or_equal}
use Rattle.bits.specs.Filled.{Filled}

-- what holds of the first n entries of an array and of the one that is written next holds of the first n + 1
pub each_more : (P : ℕ → ℕ → Type 0) (n x : ℕ) (r : List ℕ) → n < length r → P n x → ((k : ℕ) → k < n → P k (get_or r k 0))
    → (k : ℕ) → k < n + 1 → P k (get_or (set r n x) k 0)
each_more P n x r b p s k h = ⊎_elim
    (λ l. subst (P k) (sym (get_or-set_other r n k x 0 (λ e. let z : k ≡ n = e in omega arith))) (s k l))
    (λ e. subst (λ (i : ℕ). P i (get_or (set r n x) i 0)) (sym e) (subst (P n) (sym (get_or-set_same r n x 0 b)) p))
    (less_or_equal k n (omega arith))

pub filled_none : {size : ℕ} (f : ℕ → ℕ) (r : List ℕ) → length r ≡ size → Filled size f 0 r
filled_none f r e = record { long = e; done = λ x h. absurd (omega arith) }

pub filled_more : {size : ℕ} {f : ℕ → ℕ} {n : ℕ} {r : List ℕ} (x : ℕ) → n < size → x ≡ f n → Filled size f n r → Filled size f (n + 1) (set r n x)
filled_more {size} {f} {n} {r} x b e s = record {
  long = length-set r n x ∙ s.long;
  done = each_more (λ k y. y ≡ f k) n x r (let z = s.long in omega arith) e s.done;
}

pub filled_fewer : {size : ℕ} {f : ℕ → ℕ} {n k : ℕ} {r : List ℕ} → k ≤ n → Filled size f n r → Filled size f k r
filled_fewer h s = record { long = s.long; done = λ x l. s.done x (omega arith) }
