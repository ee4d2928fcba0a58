use Rattle.cache.specs.CacheLaws.{unread_start, unread_same, unread_less, honest_unread}
use Rattle.std.proofs.Common.{ℕ, ◌+◌, List, sym, ◌∙◌, subst, arith}
use Rattle.cache.specs.Cache.{Unread}
use Rattle.cache.proofs.keep_unread.Goals as goal
use Rattle.cache.proofs.keep_unread.Goals.{then-reads_cell_0, else-reads_cell_0}

pub loop-i-init : goal.loop-i-init
loop-i-init c = (c.requires, unread_start c.args.mem.now)

pub reads_cell_0-requires : goal.reads_cell_0-requires
reads_cell_0-requires c = let s = c.loop-i.invariant in (s.1.long ∙ s.0, c.loop-i-test.true)

pub loop-i-preserved : goal.loop-i-preserved
loop-i-preserved c = let old = c.args.mem.now in
    let l = c.loop-i in
    let P : List ℕ → Type 0 = Unread old (l.i + 1) in (
      l.invariant.0,
      elim c.if-reads_cell_0.branch [
        | then-reads_cell_0 w ↦ subst P (sym w.mem-is) (unread_less old l.i l.mem l.invariant.1 l.invariant.0 c.loop-i-test.true)
        | else-reads_cell_0 w ↦ subst P (sym w.mem-is) (unread_same old l.i l.mem l.invariant.1 (c.reads_cell_0.ensures w.if-reads_cell_0.false))
      ],
    )

pub shape_of-mem : goal.shape_of-mem
shape_of-mem c = c.loop-i.invariant.1.long

pub returns : goal.returns
returns c = let old = c.args.mem.now in
    let s : Unread old 2048 c.loop-i.mem = subst (λ (i : ℕ). Unread old i c.loop-i.mem) (let e = c.loop-i-test.false in omega arith) c.loop-i.invariant.1 in
    λ cl given kn val kn' val' v free honest. honest_unread cl given kn val v kn' val' old c.loop-i.mem free s honest
