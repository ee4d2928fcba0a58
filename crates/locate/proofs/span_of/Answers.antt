use native.Mathlib.Omega.{arith}
use Rattle.locate.specs.ReachedLaws.{reached_start, reached_hit, reached_more, reached_end}
use Rattle.locate.proofs.span_of.Goals as goal

pub loop-at-init : goal.loop-at-init
loop-at-init c = (reached_start c.args.s.now, λ h. h)

pub returns-then-number-line : goal.returns-then-number-line
returns-then-number-line c = let a = c.args in
    reached_hit a.s.now c.loop-at.at c.loop-at.number c.line_end-e.result c.loop-at-test.true c.line_end-e.ensures c.loop-at.invariant.0 a.line c.if-number-line.true

pub loop-at-preserved : goal.loop-at-preserved
loop-at-preserved c = let a = c.args in
    let n = c.if-number-line.false in (
      reached_more a.s.now c.loop-at.at c.loop-at.number c.line_end-e.result c.loop-at-test.true c.line_end-e.ensures c.loop-at.invariant.0,
      λ h.
          let m = c.loop-at.invariant.1 h in
          omega arith,
    )

pub returns : goal.returns
returns c = let a = c.args in
    reached_end a.s.now c.loop-at.at c.loop-at.number a.line c.loop-at-test.false c.loop-at.invariant.1 c.loop-at.invariant.0
