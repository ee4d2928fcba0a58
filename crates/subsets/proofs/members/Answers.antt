use mathlib.Core.Path.{refl, sym, ◌∙◌}
use native.Mathlib.Omega.{arith}
use lib.ListN.{get_or-replicate}
use Rattle.subsets.specs.ListedLaws.{lists_start, lists_in, lists_out}
use Rattle.subsets.proofs.members.Goals as goal
use Rattle.subsets.proofs.members.Goals.{then-has, else-has}

pub loop-o-init : goal.loop-o-init
loop-o-init c = (omega arith, lists_start c.args.set _ refl (λ j h. get_or-replicate 8 j 0 0 h))

pub loop-o-preserved : goal.loop-o-preserved
loop-o-preserved c =
    let a = c.args in
    let t = rw c.from.ensures at c.has.ensures in
    let i = c.loop-o in
    elim c.if-has.branch [
      | then-has w ↦
          rw (w.from-is, w.n-is) (omega arith, lists_in i.o a.set i.n i.from (omega arith) (omega arith) (sym t ∙ w.if-has.true) i.invariant.1)
      | else-has w ↦
          rw (w.from-is, w.n-is) (omega arith, lists_out i.o a.set i.n i.from (sym t ∙ w.if-has.false) i.invariant.1)
    ]
