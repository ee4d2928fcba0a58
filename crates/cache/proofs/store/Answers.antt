use Rattle.cache.specs.CacheLaws.{written_start, written_more, honest_written}
use Rattle.std.proofs.Common.{◌≡◌, ℕ, suc, ◌+◌, ◌*◌, refl, ◌∙◌, subst, arith, length-set}
use Rattle.cache.specs.Cache.{Written}
use Rattle.cache.proofs.store.Goals as goal

pub loop-o-init : goal.loop-o-init
loop-o-init c = written_start c.args.mem.now c.place-i.result c.args.rows

pub loop-o-preserved : goal.loop-o-preserved
loop-o-preserved c = let a = c.args in
    let l = c.loop-o in
    let i = c.place-i.result in
    written_more a.mem.now i a.rows l.o l.mem c.requires c.place-i.ensures c.loop-o-test.true l.invariant _ _
    (let z : i * 9 + (l.o + 1) ≡ i * 9 + suc l.o = omega arith in z) refl

pub shape_of-mem : goal.shape_of-mem
shape_of-mem c = length-set c.loop-o.mem _ _ ∙ c.loop-o.invariant.long

pub returns : goal.returns
returns c = λ cl given kn val v b s.
    let a = c.args in
    honest_written cl given kn val v a.mem.now c.loop-o.mem c.place-i.result a.asked c.head.result a.ok a.rows c.place-i.ensures c.head.ensures.0 c.head.ensures.1
    (subst (λ (z : ℕ). Written a.mem.now c.place-i.result a.rows z c.loop-o.mem) (let e = c.loop-o-test.false in omega arith) c.loop-o.invariant) b s
