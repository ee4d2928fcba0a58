use mathlib.Core.Path.{sym, ap, subst}
use mathlib.Core.List.{List}
use Prim.Native.Nat.{ℕ, ◌*◌, ◌^◌}
use Rattle.lowerbounds.specs.Reasons.{Based}
use Rattle.lowerbounds.specs.RaisingLaws.{raised_based}
use Rattle.lowerbounds.proofs.raise_all.Goals as goal
use Rattle.lowerbounds.proofs.raise_all.Goals.{then-q-o, else-q-o+else-j-eq1}

pub loop-q-preserved : goal.loop-q-preserved
loop-q-preserved c = let a = c.args in
    let Next : List ℕ → Type 0 = Based a.cl.now a.rows a.v a.j (a.j * 32) in
    elim c.if-q-o.branch [
      | then-q-o w ↦ subst Next (sym w.base-is) (raised_based a.cl.now a.rows a.v a.j a.o c.loop-q.q w.size-d.result w.kinds.result c.loop-q.base _ c.requires.3 c.loop-q-test.true
          (ap (λ (d : ℕ). 2 ^ d) w.size-d.ensures.0) w.kinds.ensures w.raise.ensures c.loop-q.invariant)
      | else-q-o+else-j-eq1 w ↦ subst Next (sym w.base-is) c.loop-q.invariant
    ]
