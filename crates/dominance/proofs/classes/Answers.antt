use Rattle.std.proofs.Common.{◌≡◌, sym, ◌∙◌, ℕ, ◌%◌, ◌^◌, ◌≤◌, ◌<◌, false, arith}
use Rattle.std.proofs.Math.Decide.{dec_lt}
use Rattle.bits.specs.Digit.{on}
use Rattle.bits.specs.CountLaws.{count-le, ones-count}
use Rattle.bits.specs.DigitLaws.{on_zero, on_above, equal_digits}
use Rattle.bits.specs.ShiftLaws.{on_cut}
use Rattle.dominance.proofs.classes.Goals as goal

-- a number whose digits from 32 on are 0 is below 2 ^ 32
below_all : (n : ℕ) → ((k : ℕ) → 32 ≤ k → on n k ≡ false) → n < 2 ^ 32
below_all n h = let e : n % 2 ^ 32 ≡ n = equal_digits (n % 2 ^ 32) n (λ k. at k (dec_lt k 32)) in omega arith
  where
    at : (k : ℕ) → Dec (k < 32) → on (n % 2 ^ 32) k ≡ on n k
    at k (yes l) = on_cut 32 n k l
    at k (no l) = on_above 32 (n % 2 ^ 32) k (omega arith) (omega arith) ∙ sym (h k (omega arith))

pub loop-x-init : goal.loop-x-init
loop-x-init c = λ k h. on_zero k

pub returns : goal.returns
returns c = let n = c.loop-x.seen in
    let e = ones-count 32 n (below_all n c.loop-x.invariant) in
    let b = count-le (on n) 32 in
    omega arith
