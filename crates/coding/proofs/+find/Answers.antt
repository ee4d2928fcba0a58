use Rattle.std.proofs.Common.{refl, arith, set, rules}
use Rattle.holding.specs.SearchLaws.{uncoded_less}
use Rattle.holding.specs.NarrowLaws.{kept-start}
use Rattle.coding.specs.TriedLaws.{covers_more, trying_start, trying_more, trying_end}
use Rattle.coding.specs.ValuesLaws.{valued_more, knows_more}
use Rattle.coding.proofs.+find.Goals as goal

pub loop-left-init : goal.loop-left-init
loop-left-init t c =
    let a = c.args in
    let p = a.p in
    let some = c.in-Some.ensures in
    let start = trying_start a.cl.now a.base.now p.ms p.caps p.spots p.vertices p.outputs p.kn p.val a.s.codes a.s.dom in
    record {
      long = search rules;
      inside = some.0;
      without = some.1;
      trying = start c.in-Some.x c.allowed-can.result some.0 c.fitting-fit.result c.fitting-fit.ensures;
    }

pub find-r-requires : goal.find-r-requires
find-r-requires t c =
    let a = c.args in
    let p = a.p in
    let pre = c.requires in
    let i = c.loop-left.invariant in
    let x = c.in-Some.x in
    let n = c.lowest-c.result in
    let l = c.lowest-c.ensures.0 in
    let y = c.lowest-c.ensures.1 in
    let w = uncoded_less a.s.codes p.vertices x n i.long pre.3 i.inside i.without l in
    let q = valued_more a.s.codes p.vertices x n i.long pre.3 i.inside p.ms a.gb.now a.all p.outputs p.kn a.s.used
    c.mark.result l c.mark.ensures pre.6 in
    let k = covers_more a.s.codes p.vertices x n i.long pre.3 i.inside a.cl.now a.base.now p.ms p.caps p.spots p.outputs p.kn p.val a.s.dom
    _ i.without c.settle_all.ensures.0 pre.7 in
    let d = knows_more a.s.codes p.vertices x n i.long pre.3 i.inside p.kn p.val p.ps p.outputs (i.trying.digit n l y) pre.8 in
    (omega arith, (pre.0, pre.1, pre.2, pre.3, pre.4, pre.5, q, k, d))

pub loop-left-preserved-in-Nothing : goal.loop-left-preserved-in-Nothing
loop-left-preserved-in-Nothing t c =
    let a = c.args in
    let p = a.p in
    let i = c.loop-left.invariant in
    let x = c.in-Some.x in
    let n = c.lowest-c.result in
    let w = c.without-left in
    let lost = (rw c.in-Nothing.is at c.find-r.ensures).sure refl in
    record {
      long = i.long;
      inside = i.inside;
      without = i.without;
      trying = trying_more a.cl.now a.base.now p.ms p.caps p.spots p.vertices p.outputs p.kn p.val a.s.codes a.s.dom x c.allowed-can.result i.inside
          c.loop-left.left n w.result _ i.long c.requires.3 w.ensures c.lowest-c.ensures.1 c.settle_all.ensures.0 lost i.trying;
    }

pub loop-left-preserved : goal.loop-left-preserved
loop-left-preserved t c =
    let a = c.args in
    let p = a.p in
    let i = c.loop-left.invariant in
    let x = c.in-Some.x in
    let n = c.lowest-c.result in
    let w = c.without-left in
    let lost = c.settle_all.ensures.2 c.if-settle_all.false p.kn p.val in
    let kept = kept-start a.cl.now a.base.now p.ms p.caps p.spots p.vertices p.outputs (set a.s.codes x n) a.s.dom in
    record {
      long = i.long;
      inside = i.inside;
      without = i.without;
      trying = trying_more a.cl.now a.base.now p.ms p.caps p.spots p.vertices p.outputs p.kn p.val a.s.codes a.s.dom x c.allowed-can.result i.inside
          c.loop-left.left n w.result a.s.dom i.long c.requires.3 w.ensures c.lowest-c.ensures.1 kept lost i.trying;
    }

pub returns : goal.returns
returns t c =
    let a = c.args in
    let p = a.p in
    let pre = c.requires in
    let i = c.loop-left.invariant in
    let end = trying_end a.cl.now a.base.now p.ms p.caps p.spots p.vertices p.outputs p.kn p.val a.s.codes a.s.dom c.in-Some.x
    c.allowed-can.result i.inside in
    record {
      sure = λ e. end a.gb.now a.s.used a.all c.loop-left.left i.without c.loop-left-test.false pre.6 c.allowed-can.ensures pre.7 i.trying;
      never = λ e. refl;
    }
