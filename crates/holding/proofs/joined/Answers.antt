use mathlib.Core.Path.{◌≡◌}
use Prim.Native.Nat.{ℕ, ◌*◌, ◌%◌, ◌^◌, ◌<◌}
use native.Mathlib.Nat.{one-mul, mod-eq_of_lt}
use native.Mathlib.Omega.{arith}
use lib.Pow.{pow-lt}
use borrow.Author.Rules.{rules}
use Rattle.holding.specs.JoinedLaws.{joined_of}
use Rattle.holding.proofs.joined.Goals as goal

-- the step is one cell's worth, at most 32
step_is : (i : ℕ) → i < 6 → 1 * 2 ^ i % 2 ^ 32 ≡ 2 ^ i
step_is i h = rw one-mul (mod-eq_of_lt (pow-lt {i = i} {j = 32} (omega arith)))

step-low : (i : ℕ) → i < 6 → 1 * 2 ^ i % 2 ^ 32 < 64
step-low i h = let e = step_is i h in let l = pow-lt {i = i} {j = 6} h in omega arith

pub returns : goal.returns
returns c = let args = c.args in
    joined_of args.d args.i _ c.without_cell-low.result (step_is args.i c.requires) c.without_cell-low.ensures

pub overflow_shr-result : goal.overflow_shr-result
overflow_shr-result c = let h = step-low c.args.i c.requires in search rules

pub overflow_shl-result : goal.overflow_shl-result
overflow_shl-result c = let h = step-low c.args.i c.requires in search rules
