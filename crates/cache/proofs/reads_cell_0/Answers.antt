use Rattle.cache.specs.CacheLaws.{joined-start, joined_more, joined_all}
use Rattle.problem.specs.Problem.{item}
use Rattle.std.proofs.Common.{◌≡◌, ℕ, suc, ◌+◌, ◌*◌, ap, subst, arith}
use Rattle.cache.specs.Cache.{Joined}
use Rattle.cache.proofs.reads_cell_0.Goals as goal

pub loop-o-init : goal.loop-o-init
loop-o-init c = joined-start c.args.mem.now c.args.i

pub loop-o-preserved : goal.loop-o-preserved
loop-o-preserved c = let a = c.args in
    let l = c.loop-o in
    joined_more a.mem.now a.i l.o l.all _ (ap (item a.mem.now) (let z : a.i * 9 + (l.o + 1) ≡ a.i * 9 + suc l.o = omega arith in z)) l.invariant

pub returns : goal.returns
returns c = let a = c.args in
    joined_all a.mem.now a.i c.loop-o.all (subst (λ (z : ℕ). Joined a.mem.now a.i z c.loop-o.all) (let e = c.loop-o-test.false in omega arith) c.loop-o.invariant)
