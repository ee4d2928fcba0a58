use Rattle.std.proofs.Common.{sym, ◌∙◌, subst, ℕ, ◌+◌, ◌^◌, ◌<◌, arith}
use Rattle.picking.specs.Best.{Best}
use Rattle.picking.specs.BestLaws.{best_unsuited, best_not_sooner, best_sooner}
use Rattle.picking.proofs.first_row.Goals as goal
use Rattle.picking.proofs.first_row.Goals.{then-sooner+then-suits, else-sooner, else-sooner-via-then-sooner+else-suits, else-sooner-via-else-sooner}

pub loop-f-preserved : goal.loop-f-preserved
loop-f-preserved c = let a = c.args in
    let h = c.loop-f-test.true in
    let first = c.sooner.ensures in
    let e = c.power-f-end.ensures in
    let low : c.loop-f.f < 2 ^ a.u = omega arith in
    let B : ℕ → Type 0 = Best a.cl.now a.codes.now a.v a.o a.u a.budget (c.loop-f.f + 1) in
    elim c.if-sooner.branch [
      | then-sooner+then-suits w ↦ subst B (sym w.best-is)
          (best_sooner a.cl.now a.codes.now a.v a.o a.u a.budget c.loop-f.f c.loop-f.best low (sym first ∙ w.if-sooner.true) (w.suits.ensures.0 w.if-suits.true) c.loop-f.invariant)
      | else-sooner w ↦ subst B (sym w.best-is) (elim w.else-sooner.branch [
        | else-sooner-via-then-sooner+else-suits z ↦
            best_unsuited a.cl.now a.codes.now a.v a.o a.u a.budget c.loop-f.f c.loop-f.best (z.suits.ensures.1 z.if-suits.false) c.loop-f.invariant
        | else-sooner-via-else-sooner z ↦
            best_not_sooner a.cl.now a.codes.now a.v a.o a.u a.budget c.loop-f.f c.loop-f.best low (sym first ∙ z.if-sooner.false) c.loop-f.invariant
      ])
    ]
