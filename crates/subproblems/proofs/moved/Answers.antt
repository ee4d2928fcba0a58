use Rattle.std.proofs.Common.{ℕ, slice_index_or, sym, ap₂, ◌∙◌, subst, arith}
use Rattle.bits.specs.Digit.{on}
use Rattle.subproblems.specs.Gathering.{Moved}
use Rattle.subproblems.specs.GatheringLaws.{moved-start, moved_off, moved_on, moved-low}
use Rattle.subproblems.proofs.moved.Goals as goal
use Rattle.subproblems.proofs.moved.Goals.{then-in_set, else-in_set}

pub loop-i-init : goal.loop-i-init
loop-i-init c = moved-start c.args.f c.args.perm

pub loop-i-preserved : goal.loop-i-preserved
loop-i-preserved c = let a = c.args in
    let e = c.in_set.ensures ∙ ap₂ (λ (s i : ℕ). on s (slice_index_or a.perm i 0)) c.from.ensures c.from-in-loop-i.ensures in
    elim c.if-in_set.branch [
      | then-in_set w ↦ moved_on a.f a.perm c.loop-i.i c.loop-i.r w.power-r.result _ (sym w.if-in_set.true ∙ e) w.power-r.ensures.0 w.r-is c.loop-i.invariant
      | else-in_set w ↦ moved_off a.f a.perm c.loop-i.i c.loop-i.r _ (sym w.if-in_set.false ∙ e) w.r-is c.loop-i.invariant
    ]

pub returns : goal.returns
returns c = let a = c.args in
    let all : Moved a.f a.perm 6 c.loop-i.r = subst (λ (n : ℕ). Moved a.f a.perm n c.loop-i.r) (let e = c.loop-i-test.false in omega arith) c.loop-i.invariant in
    (moved-low a.f a.perm c.loop-i.r all, all)
