use Rattle.std.proofs.Common.{ℕ, ◌+◌, List, sym, subst}
use Rattle.relation.specs.Refining.{Cutting}
use Rattle.relation.specs.RefiningLaws.{cutting_start, cutting_none, cutting_more, cutting_leaves}
use Rattle.relation.proofs.cut.Goals as goal
use Rattle.relation.proofs.cut.Goals.{then-gs-i-ne0, else-gs-i-ne0}

pub loop-i-init : goal.loop-i-init
loop-i-init c = let a = c.args in
    let p = c.requires in
    cutting_start a.cl.now a.given.now a.from a.gs a.n a.v p.3 p.4 c.copied-r.result p.0 p.2 c.copied-r.ensures

pub loop-i-preserved : goal.loop-i-preserved
loop-i-preserved c = let a = c.args in
    let p = c.requires in
    let h = c.loop-i-test.true in
    let Next : List ℕ → Type 0 = Cutting a.cl.now a.given.now a.from a.gs a.n a.v (c.loop-i.i + 1) in
    elim c.if-gs-i-ne0.branch [
      | then-gs-i-ne0 w ↦ subst Next (sym w.r-is)
          (cutting_more a.cl.now a.given.now a.from a.gs a.n a.v p.3 p.4 c.loop-i.i c.loop-i.r _ h w.refine-refined.ensures c.loop-i.invariant)
      | else-gs-i-ne0 w ↦ subst Next (sym w.r-is)
          (cutting_none a.cl.now a.given.now a.from a.gs a.n a.v p.3 p.4 c.loop-i.i c.loop-i.r h w.if-gs-i-ne0.false c.loop-i.invariant)
    ]

pub returns : goal.returns
returns c = let a = c.args in
    let p = c.requires in
    cutting_leaves a.cl.now a.given.now a.from a.gs a.n a.v p.3 p.4 c.loop-i.i c.loop-i.r c.loop-i-test.false c.loop-i.invariant
