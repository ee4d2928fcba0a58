use Rattle.std.proofs.Common.{arith}
use Rattle.joint.specs.DigitsLaws.{drawn_start, drawn_none, drawn_low}
use Rattle.joint.proofs.drawn.Goals as goal

pub returns-then-s-eq0 : goal.returns-then-s-eq0
returns-then-s-eq0 c = let a = c.args in drawn_none a.s a.first a.n c.if-s-eq0.true

pub loop-i-init : goal.loop-i-init
loop-i-init c = drawn_start c.args.s c.args.first

pub overflow_cast-result : goal.overflow_cast-result
overflow_cast-result c = let a = c.args in
    let few = c.requires.0 in
    let low = drawn_low a.s a.first c.loop-i.i c.loop-i.r (omega arith) c.loop-i.invariant in
    omega arith
