use Rattle.std.proofs.Common.{refl, arith, rules}
use Rattle.classes.proofs.Counting.{numbered_none, numbered_old, numbered_new, numbered_all}
use Rattle.classes.proofs.numbered.Goals as goal
use Rattle.classes.proofs.numbered.Goals.{in-Some, in_default}

pub loop-x-init : goal.loop-x-init
loop-x-init g c = (omega arith, λ r q told. numbered_none (search rules))

pub loop-x-preserved : goal.loop-x-preserved
loop-x-preserved g c =
    elim c.match-first_like.branch [
      | in-Some w ↦ (
        omega (arith, c.loop-x.invariant.0),
        λ r q told.
            let first = rw w.in-Some.is at (c.first_like.ensures.first r (λ y b h p. told y c.loop-x.x b h (omega arith) p)) in
            let below = rw w.in-Some.is at c.first_like.ensures.below in
            numbered_old q (c.loop-x.invariant.1 r q told) (omega arith) below first w.numbers-is w.count-is,
      )
      | in_default w ↦ (
        omega (arith, c.loop-x.invariant.0),
        λ r q told.
            let first = rw w.in_default.is at (c.first_like.ensures.first r (λ y b h p. told y c.loop-x.x b h (omega arith) p)) in
            numbered_new (c.loop-x.invariant.1 r q told) (omega arith) (omega arith) first w.numbers-is refl w.count-is,
      )
    ]

pub returns : goal.returns
returns g c = λ r q told. numbered_all (c.loop-x.invariant.1 r q told) (omega arith)
