use Rattle.std.proofs.Common.{sym, ◌∙◌}
use Rattle.coding.specs.KnownLaws.{fitting_any, fitting_one, fitting_zero}
use Rattle.coding.proofs.fitting.Goals as goal

pub returns-then-not-in_set : goal.returns-then-not-in_set
returns-then-not-in_set c = let a = c.args in
    fitting_any a.kn a.val a.x (sym c.in_set.ensures ∙ c.if-not-in_set.true)

pub returns-then-in_set : goal.returns-then-in_set
returns-then-in_set c = let a = c.args in
    let known = sym c.in_set.ensures ∙ c.if-not-in_set.false in
    fitting_one a.kn a.val a.x known (sym c.in_set-else-not-in_set.ensures ∙ c.if-in_set.true)

pub returns-else-in_set : goal.returns-else-in_set
returns-else-in_set c = let a = c.args in
    let known = sym c.in_set.ensures ∙ c.if-not-in_set.false in
    fitting_zero a.kn a.val a.x known (sym c.in_set-else-not-in_set.ensures ∙ c.if-in_set.false)
