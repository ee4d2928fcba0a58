-- `power`: the shift is the power. Assumes nothing.
use mathlib.Core.Path.{◌≡◌, ap, ◌∙◌}
use Prim.Native.Nat.{ℕ, ◌*◌, ◌%◌, ◌^◌, ◌≤◌, ◌<◌}
use native.Mathlib.Omega.{arith}
use native.Mathlib.Nat.{mod-eq_of_lt, one-mul}
use lib.Pow.{pow_mono}
use Rattle.bits.proofs.power.Goals as goal

abbrev wordEnd : ℕ
wordEnd = 2 ^ 64

shifted : (n : ℕ) → n < 64 → (1 * 2 ^ n) % wordEnd ≡ 2 ^ n
shifted n h =
    let low : n ≤ 63 = omega arith in
    let a : 2 ^ n ≤ 2 ^ 63 = pow_mono low in
    ap (λ (x : ℕ). x % wordEnd) (one-mul (2 ^ n)) ∙ mod-eq_of_lt (omega arith)

pub returns : goal.returns
returns c = shifted c.args.n c.requires
