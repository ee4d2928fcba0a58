use Rattle.cache.specs.CacheLaws.{barred_among}
use Rattle.problem.specs.Problem.{item}
use Rattle.bits.specs.LogicLaws.{true_false}
use borrow.Author.Tests.{not-true}
use Rattle.std.proofs.Common.{ℕ, List, sym, ◌∙◌, subst}
use Rattle.cache.specs.Cache.{Honest}
use Rattle.cache.proofs.settle.Goals as goal
use Rattle.cache.proofs.settle.Goals.{then-a-n+then-between+else-not-t, else-a-n}

pub loop-a-init : goal.loop-a-init
loop-a-init c = c.requires.3

pub tell-t-requires : goal.tell-t-requires
tell-t-requires c = let p = c.requires in (p.0, p.1, p.2, c.loop-a.invariant)

pub shape_of-mem-then-not-t : goal.shape_of-mem-then-not-t
shape_of-mem-then-not-t c = c.tell-t.ensures.0.long ∙ sym c.requires.3.long

pub returns-then-not-t : goal.returns-then-not-t
returns-then-not-t c = let a = c.args in
    let bad = c.tell-t.ensures.1 (not-true _ c.if-not-t.true) in
    (c.tell-t.ensures.0, λ e. barred_among a.cl.now a.given.now a.q.kn a.q.val a.q.vertices _ a.among (item a.q.rows) (c.between.ensures c.if-between.true) bad)

pub loop-a-preserved : goal.loop-a-preserved
loop-a-preserved c = let a = c.args in
    let H : List ℕ → Type 0 = Honest a.cl.now a.given.now a.q.kn a.q.val a.q.vertices in
    elim c.if-a-n.branch [
      | then-a-n+then-between+else-not-t w ↦ subst H (sym w.mem-is) w.tell-t.ensures.0
      | else-a-n w ↦ subst H (sym w.mem-is) c.loop-a.invariant
    ]

pub shape_of-mem : goal.shape_of-mem
shape_of-mem c = c.loop-a.invariant.long ∙ sym c.requires.3.long

pub returns : goal.returns
returns c = (c.loop-a.invariant, λ e. absurd (true_false e))
