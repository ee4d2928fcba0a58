use Rattle.cache.specs.CacheLaws.{honest_less}
use Rattle.cache.specs.Cache.{Honest}
use Rattle.std.proofs.Common.{length, sym, refl, ap, ◌∙◌, subst, length-set}
use Rattle.cache.proofs.forget.Goals as goal
use Rattle.cache.proofs.forget.Goals.{then-mem-i-eq0, else-mem-i-eq0}

pub loop-i-init : goal.loop-i-init
loop-i-init c = (c.requires, refl, λ cl given kn val v s. s)

pub loop-i-preserved : goal.loop-i-preserved
loop-i-preserved c = let l = c.loop-i in (
  elim c.if-mem-i-eq0.branch [
    | then-mem-i-eq0 w ↦ ap length w.mem-is ∙ length-set l.mem _ _ ∙ l.invariant.0
    | else-mem-i-eq0 w ↦ ap length w.mem-is ∙ l.invariant.0
  ],
  elim c.if-mem-i-eq0.branch [
    | then-mem-i-eq0 w ↦ ap length w.mem-is ∙ length-set l.mem _ _ ∙ l.invariant.1
    | else-mem-i-eq0 w ↦ ap length w.mem-is ∙ l.invariant.1
  ],
  λ cl given kn val v s.
      let old = l.invariant.2 cl given kn val v s in
      elim c.if-mem-i-eq0.branch [
        | then-mem-i-eq0 w ↦ subst (Honest cl given kn val v) (sym w.mem-is) (honest_less cl given kn val v l.mem l.i c.loop-i-test.true old)
        | else-mem-i-eq0 w ↦ subst (Honest cl given kn val v) (sym w.mem-is) old
      ],
)

pub returns : goal.returns
returns c = c.loop-i.invariant.2
