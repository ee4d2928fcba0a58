use Rattle.std.proofs.Common.{arith, ◌+◌, sym, ◌∙◌, ap, subst, true, refl, List, ℕ, is_some}
use Rattle.std.specs.Prelude.{Option}
use Rattle.problem.specs.Answer.{some_codes}
use Rattle.first.specs.Drawn.{Replied}
use Rattle.first.specs.LowestLaws.{lowest_same, lowest_zero, lowest_found, lowest_one, stands_found, stands_kept}
use Rattle.first.proofs.least_digit.Goals as goal

pub returns-then-not-in_set : goal.returns-then-not-in_set
returns-then-not-in_set c = let p = c.requires in
    let a = c.args in
    let q = a.p in
    let zero = sym c.in_set.ensures ∙ c.if-not-in_set.true in
    (lowest_zero a.cl.now q.budgets q.vertices q.outputs q.cells a.i a.x a.codes p.4 p.5 p.6 zero, p.7, p.8)

pub returns-in_default : goal.returns-in_default
returns-in_default c = let p = c.requires in
    let a = c.args in
    let q = a.p in
    let r = c.ask-a.result.codes in
    let one = sym c.in_set.ensures ∙ c.if-not-in_set.false in (
      lowest_one a.cl.now q.budgets q.vertices q.outputs q.cells a.i a.x a.codes p.4 p.5 p.6 (some_codes r) (is_some r)
          (ap is_some c.in_default.is) one c.ask-a.ensures.0,
      p.7,
      c.ask-a.ensures.1,
    )

pub returns : goal.returns
returns c = let p = c.requires in
    let a = c.args in
    let q = a.p in
    let r = c.in-Some.found in
    let b = subst (λ (o : Option (List ℕ)). Replied a.cl.now q.budgets q.vertices q.outputs q.cells a.codes a.i a.x (is_some o) (some_codes o)) c.in-Some.is c.ask-a.ensures.0 in
    let low = lowest_found a.cl.now q.budgets q.vertices q.outputs q.cells a.i a.x a.codes p.4 p.5 p.6 r true refl b in
    let stands = stands_found a.cl.now q.budgets q.vertices q.outputs q.cells a.i a.x a.codes a.given.now r true p.4 refl b p.7 in (
      lowest_same a.cl.now q.budgets q.vertices q.outputs q.cells a.i (a.x + 1) r c.sorted-least.result p.4 (let h = p.5 in omega arith)
          low c.sorted-least.ensures.0 (c.sorted-least.ensures.1 a.cl.now q.budgets q.outputs low.witness),
      stands_kept a.i (a.x + 1) q.vertices r a.given.now c.sorted-least.result c.sorted-least.ensures.0 stands,
      c.ask-a.ensures.1,
    )
