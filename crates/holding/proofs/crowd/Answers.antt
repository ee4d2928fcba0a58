use mathlib.Core.Path.{sym, subst}
use Prim.Native.Nat.{ℕ}
use Rattle.holding.specs.Full.{Crowd}
use Rattle.holding.specs.FullLaws.{crowd_one}
use Rattle.holding.proofs.crowd.Goals as goal

pub returns-then-inside : goal.returns-then-inside
returns-then-inside c = let a = c.args in
    let in_b = c.inside.ensures c.if-inside.true in
    subst (λ (p : ℕ). Crowd a.cl.now a.codes.now a.o p a.b a.v c.with-seen.result 1) c.part-p.ensures.0
    (crowd_one a.cl.now a.codes.now a.o c.part-p.result a.b a.v a.x c.strangers.result c.label.result c.with-seen.result
    c.if-x-v.true c.label.ensures (sym c.part-p.ensures.0) in_b.0 in_b.1 c.strangers.ensures c.with-seen.ensures)
