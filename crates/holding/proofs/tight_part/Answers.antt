use Rattle.bits.specs.DigitLaws.{on_zero}
use Rattle.bits.specs.Logic.{orb}
use Rattle.bits.specs.LogicLaws.{never_both}
use borrow.Author.Tests.{eqb-true}
use lib.Dec.{eqb}
use mathlib.Core.Bool.{Bool}
use mathlib.Core.Path.{sym, ap, ◌∙◌}
use Rattle.holding.proofs.tight_part.Goals as goal

pub returns-then-t-spot : goal.returns-then-t-spot
returns-then-t-spot c = λ q e. (eqb-true q c.args.p (sym (ap (λ (b : Bool). orb b (eqb q c.args.p)) (on_zero q)) ∙ sym (c.with.ensures q) ∙ e), c.if-t-spot.true)

pub returns-else-t-spot : goal.returns-else-t-spot
returns-else-t-spot c = λ q e. absurd (never_both e (on_zero q))
