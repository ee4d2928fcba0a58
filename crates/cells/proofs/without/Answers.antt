use Rattle.cells.specs.Sets.{Without}
use lib.Bits.{bit_and}
use Prim.Native.Nat.{ℕ, ◌-◌, ◌^◌}
use mathlib.Core.Path.{subst, sym}
use Rattle.cells.specs.SetsLaws.{without_power}
use Rattle.cells.proofs.without.Goals as goal

pub returns : goal.returns
returns c = let a = c.args in
    subst (λ (z : ℕ). Without a.s a.k (bit_and a.s (2 ^ 64 - 1 - z))) (sym c.single.ensures) (without_power a.s a.k c.requires)
