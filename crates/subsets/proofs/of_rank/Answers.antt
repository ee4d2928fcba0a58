use mathlib.Core.Path.{◌≡◌, refl, sym}
use mathlib.Core.Bool.{Bool, true, false}
use Prim.Native.Nat.{ℕ, ◌+◌, ◌*◌, ◌≤◌}
use native.Mathlib.Omega.{arith}
use mir.Val.{bool_byte}
use Rattle.bits.specs.Digit.{on}
use Rattle.subsets.specs.Rank.{rank}
use Rattle.subsets.specs.RankLaws.{rank_in, rank_out, rank_room}
use Rattle.subsets.proofs.of_rank.Goals as goal

rank_more : (i r s : ℕ) (b : Bool) → b ≡ on r i → s ≡ rank i r → s * 2 + bool_byte b ≡ rank (i + 1) r
rank_more i r s true e h = rank_in i r s (sym e) h
rank_more i r s false e h = omega (arith, rank_out i r s (sym e) h)

bit_low : (b : Bool) → bool_byte b ≤ 1
bit_low true = omega arith
bit_low false = omega arith

pub loop-i-init : goal.loop-i-init
unfolding rank
loop-i-init c = refl

pub overflow_mul-s : goal.overflow_mul-s
overflow_mul-s c = omega (arith, rank_room c.loop-i.i c.args.r (omega arith), c.loop-i.invariant)

pub overflow_add-s : goal.overflow_add-s
overflow_add-s c = omega (arith, rank_room c.loop-i.i c.args.r (omega arith), c.loop-i.invariant, c.from-in-loop-i.ensures, bit_low c.has.result)

pub loop-i-preserved : goal.loop-i-preserved
loop-i-preserved c = rw c.from-in-loop-i.ensures
    (rank_more c.loop-i.i c.args.r c.loop-i.s c.has.result (rw c.from.ensures at c.has.ensures) c.loop-i.invariant)
