use mathlib.Core.Path.{◌≡◌, refl, sym, subst}
use mathlib.Core.Bool.{true, not}
use Prim.Native.Nat.{ℕ, ◌<◌}
use native.Mathlib.Omega.{arith}
use Rattle.bits.specs.Digit.{digit, on}
use Rattle.bits.specs.Every.{every}
use Rattle.holding.specs.WithoutCellLaws.{without_cell, without_cell_on}
use Rattle.holding.proofs.without_cell.Goals as goal

-- the set s is right for the cell n that i is
at-cell : (s n i : ℕ) → i ≡ n → without_cell s n ≡ true → (k : ℕ) → k < 64 → on s k ≡ not (on k i)
at-cell s n i q e = subst (λ (z : ℕ). (k : ℕ) → k < 64 → on s k ≡ not (on k z)) (sym q) (without_cell_on s n e)

pub returns-in-0 : goal.returns-in-0
unfolding on digit every without_cell
returns-in-0 c = at-cell 0x5555555555555555 0 c.args.i c.in-0.is refl

pub returns-in-1 : goal.returns-in-1
unfolding on digit every without_cell
returns-in-1 c = at-cell 0x3333333333333333 1 c.args.i c.in-1.is refl

pub returns-in-2 : goal.returns-in-2
unfolding on digit every without_cell
returns-in-2 c = at-cell 0x0f0f0f0f0f0f0f0f 2 c.args.i c.in-2.is refl

pub returns-in-3 : goal.returns-in-3
unfolding on digit every without_cell
returns-in-3 c = at-cell 0x00ff00ff00ff00ff 3 c.args.i c.in-3.is refl

pub returns-in-4 : goal.returns-in-4
unfolding on digit every without_cell
returns-in-4 c = at-cell 0x0000ffff0000ffff 4 c.args.i c.in-4.is refl

pub returns-in_default : goal.returns-in_default
unfolding on digit every without_cell
returns-in_default c = let h = c.requires in
    let last : c.args.i ≡ 5 = omega arith in
    at-cell 0x00000000ffffffff 5 c.args.i last refl
