-- `ask_line`: each place has its line. Assumes nothing.
use Rattle.std.proofs.Common.{sym, ◌∙◌}
use Rattle.sheet.specs.AskLineLaws.{line_design, line_no_design, line_in, line_bound, line_limit, line_end, line_out, line_over}
use Rattle.sheet.proofs.ask_line.Goals as goal

pub returns-then-equal : goal.returns-then-equal
returns-then-equal c = λ d h f. line_design d c.args.l.now c.in-Design.is (sym c.equal.ensures ∙ c.if-equal.true) c.args.k h

pub returns-else-equal : goal.returns-else-equal
returns-else-equal c = λ d h f. line_no_design d c.args.l.now c.in-Design.is (sym c.equal.ensures ∙ c.if-equal.false)

pub returns-in-In : goal.returns-in-In
returns-in-In c = λ d h f. line_in d c.args.l.now c.ask_in.result c.in-In.is (c.ask_in.ensures d h) f

pub returns-in-Bound : goal.returns-in-Bound
returns-in-Bound c = λ d h f. line_bound d c.args.l.now c.ask_bound.result c.in-Bound.is (c.ask_bound.ensures d h)

pub returns-in-Limit : goal.returns-in-Limit
returns-in-Limit c = λ d h f. line_limit d c.args.l.now c.ask_limit.result c.in-Limit.is (c.ask_limit.ensures d h)

pub returns-then-equal-2 : goal.returns-then-equal-2
returns-then-equal-2 c = λ d h f. line_end d c.args.l.now c.ask_end.result c.in-Out.is (sym c.equal-in-Out.ensures ∙ c.if-equal-2.true) (c.ask_end.ensures d h)

pub returns-else-equal-2 : goal.returns-else-equal-2
returns-else-equal-2 c = λ d h f. line_out d c.args.l.now c.ask_out.result c.in-Out.is (sym c.equal-in-Out.ensures ∙ c.if-equal-2.false) (c.ask_out.ensures d h)

pub returns-in-Over : goal.returns-in-Over
returns-in-Over c = λ d h f. line_over d c.args.l.now c.in-Over.is
