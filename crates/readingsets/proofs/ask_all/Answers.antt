use Rattle.problem.specs.declared.Answer.{Answer}
use Rattle.problem.specs.Answer.{is_found, is_unsure, found_codes}
use Rattle.problem.specs.Problem.{item}
use Rattle.bits.specs.LogicLaws.{true_false}
use Rattle.coding.specs.Limit.{Sure}
use Rattle.coding.specs.LimitLaws.{sure_now}
use Rattle.subproblems.specs.Subproblem.{Settled}
use Rattle.std.proofs.Common.{false, ℕ, List, sym, refl, subst}
use Rattle.readingsets.proofs.ask_all.Goals as goal

pub returns-then-is_bad : goal.returns-then-is_bad
returns-then-is_bad c = let a = c.args in
    let p = a.p in
    let h = c.requires.3 in
    (λ e. absurd (true_false (sym e)), sure_now p.last false _ refl (c.is_bad.ensures a.cl.now a.given.now p.kn p.val p.vertices h c.if-is_bad.true), h)

pub returns-in-Found : goal.returns-in-Found
returns-in-Found c = let a = c.args in
    let p = a.p in
    let Says : Answer (List ℕ) → Type 0 = λ s. Sure p.last (is_unsure s) (Settled a.cl.now a.given.now p.kn p.val p.vertices a.all (item a.rows) (is_found s) (found_codes s)) in
    (λ e. refl, subst Says c.in-Found.is c.ask-c.ensures, c.requires.3)

pub returns-then-p-ne0 : goal.returns-then-p-ne0
returns-then-p-ne0 c =
    let a = c.args in
    let p = a.p in
    let Says : Answer (List ℕ) → Type 0 = λ s. Sure p.last (is_unsure s) (Settled a.cl.now a.given.now p.kn p.val p.vertices a.all (item a.rows) (is_found s) (found_codes s)) in
    let said = subst Says c.in-Nothing.is c.ask-c.ensures in
    (λ e. absurd (true_false (sym e)), said, c.store.ensures a.cl.now a.given.now p.kn p.val p.vertices (λ e. said.sure refl) c.requires.3)

pub returns-else-p-ne0 : goal.returns-else-p-ne0
returns-else-p-ne0 c =
    let a = c.args in
    let p = a.p in
    let Says : Answer (List ℕ) → Type 0 = λ s. Sure p.last (is_unsure s) (Settled a.cl.now a.given.now p.kn p.val p.vertices a.all (item a.rows) (is_found s) (found_codes s)) in
    let said = subst Says c.in-Nothing.is c.ask-c.ensures in
    (λ e. absurd (true_false (sym e)), said, c.requires.3)

pub returns-in-Unsure : goal.returns-in-Unsure
returns-in-Unsure c = let a = c.args in
    let p = a.p in
    let Says : Answer (List ℕ) → Type 0 = λ s. Sure p.last (is_unsure s) (Settled a.cl.now a.given.now p.kn p.val p.vertices a.all (item a.rows) (is_found s) (found_codes s)) in
    (λ e. absurd (true_false (sym e)), subst Says c.in-Unsure.is c.ask-c.ensures, c.requires.3)
