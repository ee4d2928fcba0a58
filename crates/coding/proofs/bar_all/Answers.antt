use Rattle.std.proofs.Common.{◌+◌, ◌*◌, length, sym, ap, ◌∙◌, subst, arith}
use Rattle.problem.specs.Problem.{part_of, Kept}
use Rattle.holding.specs.FullLaws.{settled_full}
use Rattle.holding.specs.NarrowLaws.{kept_more}
use Rattle.coding.proofs.bar_all.Goals as goal
use Rattle.coding.proofs.bar_all.Goals.{then-p-o, else-p-o}

pub loop-o-preserved : goal.loop-o-preserved
loop-o-preserved c =
    let a = c.args in
    let p = a.p in
    let pre = c.requires in
    let h = c.loop-o-test.true in (
      elim c.if-p-o.branch [ then-p-o w ↦ ap length w.dom-is ∙ w.shut.ensures.long | else-p-o w ↦ ap length w.dom-is ∙ c.loop-o.invariant.0 ],
      λ base ms spots b. elim c.if-p-o.branch [
        | then-p-o w ↦ subst (Kept a.cl.now base ms p.caps spots p.vertices p.outputs a.codes.now a.dom.now) (sym w.dom-is)
            (kept_more a.cl.now base ms p.caps spots p.vertices p.outputs a.codes.now a.dom.now c.loop-o.dom _ (c.loop-o.invariant.1 base ms spots b)
            (settled_full a.cl.now base ms p.caps spots p.vertices p.outputs c.loop-o.o (part_of a.cl.now c.loop-o.o a.x) a.codes.now c.loop-o.dom h
            (λ y i. let m = pre.2 in let n = pre.3 in pre.0.low (c.loop-o.o * 32 + y) (omega arith))
            a.c _ c.crowd-k.result.seen c.crowd-k.result.count (b.each c.loop-o.o a.c h pre.4) c.crowd-k.ensures w.if-p-o.true _ w.shut.ensures))
        | else-p-o w ↦ subst (Kept a.cl.now base ms p.caps spots p.vertices p.outputs a.codes.now a.dom.now) (sym w.dom-is) (c.loop-o.invariant.1 base ms spots b)
      ],
    )
