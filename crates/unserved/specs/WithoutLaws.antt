-- The set without one of its outputs has the others and one output less: exclusive or with a power of 2 changes that digit alone.
-- Assumes nothing.
use Rattle.std.specs.Prelude.{◌≡◌, refl, Bool, true, false, List, [], ◌∷◌, ℕ, zero, suc, ◌+◌, ◌^◌, ◌<◌, length}
use Rattle.std.proofs.Common.{ap, ◌∙◌, arith, length-append}
use Rattle.std.proofs.lemmas.Nat.{xor_lt}
use Rattle.std.proofs.Math.Pow.{pow-lt}
use Rattle.bits.specs.Logic.{pick, xorb, bit}
use Rattle.bits.specs.Digit.{on}
use Rattle.bits.specs.DigitLaws.{on_single, on_xor}
use Rattle.bits.specs.Count.{count}
use Rattle.bits.specs.CountLaws.{count-drop}
use Rattle.bits.specs.LogicLaws.{xor_false}
use Rattle.unserved.specs.Asking.{without}
use Rattle.cells.specs.SetsLaws.{on_power_other}
use Rattle.subsets.specs.Subset.{members, size}
use Rattle.subsets.specs.ListedLaws.{members_more}

pub without_other : (s k i : ℕ) → (i ≡ k → ⊥) → on (without s k) i ≡ on s i
unfolding without
without_other s k i e = on_xor s (2 ^ k) i ∙ ap (xorb (on s i)) (on_power_other k i e) ∙ xor_false (on s i)

without_it : (s k : ℕ) → on s k ≡ true → on (without s k) k ≡ false
unfolding without
without_it s k e = on_xor s (2 ^ k) k ∙ ap (λ (b : Bool). xorb b (on (2 ^ k) k)) e ∙ ap (xorb true) (on_single k)

pub without_below : (m s k : ℕ) → s < 2 ^ m → k < m → without s k < 2 ^ m
unfolding without
without_below m s k h b = xor_lt m s (2 ^ k) h (pow-lt b)

size_counts : (m s : ℕ) → size m s ≡ count (on s) m
unfolding members count
size_counts zero s = refl
size_counts (suc m) s =
    let c = size_counts m s in
    ap length (members_more s 0 m) ∙ length-append (members s 0 m) (last (0 + m)) ∙ last_one ∙ ap (λ (n : ℕ). n + bit (on s m)) c
  where
    last : ℕ → List ℕ
    last o = pick (on s o) (o ∷ []) []

    one : (b : Bool) (o : ℕ) → length (pick b (o ∷ []) []) ≡ bit b
    one true o = refl
    one false o = refl

    last_one : length (members s 0 m) + length (last (0 + m)) ≡ length (members s 0 m) + bit (on s m)
    last_one = ap (λ (n : ℕ). length (members s 0 m) + n) (let z : 0 + m ≡ m = omega arith in ap (λ (o : ℕ). length (last o)) z ∙ one (on s m) m)

pub without-size : (m s k : ℕ) → k < m → on s k ≡ true → size m (without s k) < size m s
without-size m s k h e =
    let a = size_counts m s in
    let b = size_counts m (without s k) in
    let c = count-drop (on s) (on (without s k)) m k h e (without_it s k e) (without_other s k) in
    omega arith
