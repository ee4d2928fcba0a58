use Rattle.std.proofs.Common.{ℕ, ◌+◌, refl, sym, ap, ◌∙◌}
use Rattle.bits.specs.Digit.{on}
use Rattle.subproblems.specs.GatheringLaws.{gathered-start, gathered_skip, gathered_more, gathered_same}
use Rattle.cells.specs.ListLaws.{zeros_are}
use Rattle.subproblems.proofs.gather.Goals as goal
use Rattle.subproblems.proofs.gather.Goals.{then-in_set, else-in_set}

pub loop-o-init : goal.loop-o-init
loop-o-init c = gathered-start c.args.asked c.args.rows _ _ _ refl refl refl (zeros_are 8)

pub loop-o-preserved : goal.loop-o-preserved
loop-o-preserved c = let h = c.loop-o-test.true in
    let a = c.args in
    let l = c.loop-o in
    let e = c.in_set.ensures ∙ ap (λ (z : ℕ). on z l.o) c.from.ensures in
    elim c.if-in_set.branch [
      | then-in_set w ↦ gathered_same a.asked a.rows (l.o + 1) _ _ _ _ _ _ _ _ w.count-is w.from-is w.cells-is w.tables-is
          (gathered_more a.asked a.rows l.o l.count l.from l.cells l.tables h l.invariant _ _
          (sym w.if-in_set.true ∙ e) w.open_of.ensures.0 w.given_of.ensures.0)
      | else-in_set w ↦ gathered_same a.asked a.rows (l.o + 1) _ _ _ _ _ _ _ _ w.count-is w.from-is w.cells-is w.tables-is
          (gathered_skip a.asked a.rows l.o l.count l.from l.cells l.tables h l.invariant (sym w.if-in_set.false ∙ e))
    ]
