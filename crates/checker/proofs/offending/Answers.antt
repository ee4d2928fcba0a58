use Rattle.std.proofs.Common.{arith}
use Rattle.checker.proofs.LimitsLaws.{luts_judged, node_judged, none_judged, kept_more}
use Rattle.checker.proofs.offending.Goals as goal

pub returns-then-limit-luts : goal.returns-then-limit-luts
returns-then-limit-luts c = λ d w h. luts_judged h c.if-limit-luts.true

pub loop-o-init : goal.loop-o-init
loop-o-init c = λ p l. absurd (omega arith)

pub returns-then-widths-o : goal.returns-then-widths-o
returns-then-widths-o c = λ d w h.
    node_judged h c.loop-o.o c.count.result c.if-limit-luts.false c.loop-o-test.true
    c.loop-o.invariant c.count.ensures c.if-widths-o.true

pub loop-o-preserved : goal.loop-o-preserved
loop-o-preserved c = kept_more c.args.luts c.args.reads c.args.widths c.loop-o.o c.count.result c.loop-o.invariant c.count.ensures c.if-widths-o.false

pub returns : goal.returns
returns c = let end = c.loop-o-test.false in
    λ d w h. none_judged h c.if-limit-luts.false (λ p l. c.loop-o.invariant p (omega arith))
