use Rattle.std.proofs.Common.{rules}
use Rattle.text.specs.LineEndLaws.{line_ends}
use Rattle.text.proofs.line_end.Goals as goal

pub returns-then-s-e-eq10 : goal.returns-then-s-e-eq10
returns-then-s-e-eq10 c = line_ends _ _ _ (search rules) c.loop-e.invariant (search rules) (λ h. c.if-s-e-eq10.true)
