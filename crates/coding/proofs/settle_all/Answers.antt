use borrow.Author.Tests.{not-false}
use Rattle.holding.specs.SearchLaws.{empty_hopeless}
use Rattle.holding.specs.NarrowLaws.{kept_more, hopeless_before}
use Rattle.coding.proofs.settle_all.Goals as goal
use Rattle.coding.proofs.settle_all.Goals.{then-empty-via-then-empty, then-empty-via-else-empty+then-not-settle}

pub returns-then-empty : goal.returns-then-empty
returns-then-empty c = let a = c.args in
    let p = a.p in
    let barred = c.bar_all.ensures.0 a.base.now p.ms p.spots c.requires.2 in
    let k = kept_more a.cl.now a.base.now p.ms p.caps p.spots p.vertices p.outputs a.codes.now a.dom.now _ c.loop-o.dom barred c.loop-o.invariant.1 in
    let before = hopeless_before a.cl.now a.base.now p.ms p.caps p.spots p.vertices p.outputs a.codes.now a.dom.now c.loop-o.dom k in
    elim c.then-empty.branch [
      | then-empty-via-then-empty w ↦ rw w.dom-is (
        k,
        c.loop-o.invariant.0,
        λ q kn val. before kn val
            (empty_hopeless a.cl.now a.base.now p.ms p.caps p.spots p.vertices p.outputs kn val a.codes.now c.loop-o.dom (c.empty.ensures w.if-empty.true)),
      )
      | then-empty-via-else-empty+then-not-settle w ↦ rw w.dom-is (
        kept_more a.cl.now a.base.now p.ms p.caps p.spots p.vertices p.outputs a.codes.now a.dom.now c.loop-o.dom _ k w.settle.ensures.0,
        w.settle.ensures.1,
        λ q kn val. before kn val (w.settle.ensures.2 w.if-not-settle.true kn val),
      )
    ]

pub returns : goal.returns
returns c = let a = c.args in
    let p = a.p in
    let pre = c.requires in
    let barred = c.bar_all.ensures.0 a.base.now p.ms p.spots pre.2 in
    let k = kept_more a.cl.now a.base.now p.ms p.caps p.spots p.vertices p.outputs a.codes.now a.dom.now _ c.loop-o.dom barred c.loop-o.invariant.1 in
    let before = hopeless_before a.cl.now a.base.now p.ms p.caps p.spots p.vertices p.outputs a.codes.now a.dom.now c.loop-o.dom k in (
      k,
      c.loop-o.invariant.0,
      λ q kn val. before kn val (empty_hopeless a.cl.now a.base.now p.ms p.caps p.spots p.vertices p.outputs kn val a.codes.now c.loop-o.dom
          (c.empty-2.ensures (not-false _ q))),
    )
