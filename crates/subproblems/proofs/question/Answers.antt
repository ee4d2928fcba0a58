use Rattle.subproblems.specs.Gathering.{Moved, Turned}
use Rattle.std.proofs.Common.{ℕ, ◌+◌, ◌*◌, refl, sym, ap, ap₂, ◌∙◌, subst, arith}
use Rattle.bits.specs.Digit.{on}
use Rattle.subproblems.specs.GatheringLaws.{turned-start, turned_skip, turned_more, same_of}
use Rattle.subproblems.proofs.question.Goals as goal
use Rattle.subproblems.proofs.question.Goals.{then-in_set, else-in_set}

pub loop-o-init : goal.loop-o-init
loop-o-init c = turned-start c.args.asked c.args.rows c.order-perm.result _ refl

pub loop-o-preserved : goal.loop-o-preserved
loop-o-preserved c = let h = c.loop-o-test.true in
    let a = c.args in
    let l = c.loop-o in
    let perm = c.order-perm.result in
    elim c.if-in_set.branch [
      | then-in_set w ↦ turned_more a.asked a.rows perm l.o l.r h l.invariant w.moved-f.result _ _ w.moved-f.ensures.0
          (subst (λ (z : ℕ). Moved z perm 6 w.moved-f.result) w.open_of.ensures.0 w.moved-f.ensures.1)
          (ap₂ (λ (g f : ℕ). g * 64 + f) w.given_of.ensures.0 w.from-then-in_set.ensures) w.r-is
      | else-in_set w ↦ turned_skip a.asked a.rows perm l.o l.r h l.invariant _ (sym w.if-in_set.false ∙ c.in_set.ensures ∙ ap (λ (z : ℕ). on z l.o) c.from.ensures) w.r-is
    ]

pub returns : goal.returns
returns c = let a = c.args in
    same_of a.asked a.known a.rows c.order-perm.result c.loop-o.r c.order-perm.ensures.0 c.order-perm.ensures.1
    (subst (λ (z : ℕ). Turned a.asked a.rows c.order-perm.result z c.loop-o.r) (let h = c.loop-o-test.false in omega arith) c.loop-o.invariant)
