use Rattle.std.proofs.Common.{◌≡◌, ℕ, subst, arith}
use Rattle.coding.specs.Values.{Marked}
use Rattle.coding.specs.ValuesLaws.{marked_more}
use Rattle.coding.proofs.mark.Goals as goal

pub loop-k-preserved : goal.loop-k-preserved
loop-k-preserved c = let a = c.args in
    let h = c.loop-k-test.true in
    λ gs b. marked_more gs a.used a.c c.loop-k.k _ c.loop-k.r h (b.each c.loop-k.k a.c h c.requires.1) (c.loop-k.invariant gs b)

pub returns : goal.returns
returns c = let a = c.args in
    let left = c.loop-k-test.false in
    let upto = c.loop-k.auto.k-end in
    let e : c.loop-k.k ≡ 3 = omega arith in
    λ gs b. subst (λ (n : ℕ). Marked gs a.used a.c n c.loop-k.r) e (c.loop-k.invariant gs b)
