-- A statement about all numbers below another, given for each of them; lists of digits by their digits. Assumes nothing.
use Rattle.std.specs.Prelude.{◌≡◌, Bool, false, List, ℕ, zero, suc, ◌<◌, length, get_or}
use Rattle.std.proofs.Common.{subst, arith, ext_get_or}

-- P 0, P 1 and so on, below n
abbrev pub Each : ℕ → (ℕ → Type 0) → Type 0
Each zero P = Unit {0}
Each (suc n) P = P 0 × Each n (λ (i : ℕ). P (suc i))

pub each_below : (n : ℕ) (P : ℕ → Type 0) → Each n P → (i : ℕ) → i < n → P i
each_below zero P h i k = absurd (omega arith)
each_below (suc n) P h zero k = h.0
each_below (suc n) P h (suc i) k = each_below n (λ (j : ℕ). P (suc j)) h.1 i (omega arith)

pub digits_are : (ds es : List Bool) → length ds ≡ length es → Each (length es) (λ (i : ℕ). get_or ds i false ≡ get_or es i false) → ds ≡ es
digits_are ds es e h =
    ext_get_or false ds es e (λ i k. each_below (length es) (λ (j : ℕ). get_or ds j false ≡ get_or es j false) h i (subst (λ (n : ℕ). i < n) e k))
