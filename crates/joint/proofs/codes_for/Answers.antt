use Rattle.std.proofs.Common.{◌≡◌, true, false, List, ℕ, ap, subst, ⊎_elim}
use Rattle.problem.specs.declared.Answer.{Answer}
use Rattle.problem.specs.Answer.{is_found, is_unsure, found_codes}
use Rattle.coding.specs.Limit.{Sure}
use Rattle.coding.specs.LimitLaws.{sure_then}
use Rattle.readers.specs.Masks.{Decided}
use Rattle.joint.specs.MergeLaws.{decided_merged, decided_none}
use Rattle.joint.proofs.codes_for.Goals as goal

pub returns-in-Found : goal.returns-in-Found
returns-in-Found c = let a = c.args in
    let pre = c.requires in
    let m = c.merge-m.result in
    let labels = c.relabel-labels.result in
    let known = c.drawn-known.result in
    let digits = c.drawn-digits.result in
    let Says : Answer (List ℕ) → Type 0 = λ s. Sure a.limit (is_unsure s) (Decided labels m.count a.j a.rows known digits (is_found s) (found_codes s)) in
    sure_then a.limit false _ _
    (decided_merged a.cl.now a.v a.j m.count a.rows m.first m.place labels pre.0 pre.1 pre.2 a.kn a.val known digits
    c.merge-m.ensures c.relabel-labels.ensures c.drawn-known.ensures c.drawn-digits.ensures c.in-Found.codes c.expand.result c.expand.ensures true)
    (subst Says c.in-Found.is c.codes_for-c.ensures)

pub returns-in-Nothing : goal.returns-in-Nothing
returns-in-Nothing c = let a = c.args in
    let pre = c.requires in
    let m = c.merge-m.result in
    let s = c.codes_for-c.result.answer in
    let none : is_found s ≡ false = ⊎_elim (λ e. ap (λ (s : Answer (List ℕ)). is_found s) e) (λ e. ap (λ (s : Answer (List ℕ)). is_found s) e) c.in-Nothing.is in
    sure_then a.limit _ _ _
    (decided_none a.cl.now a.v a.j m.count a.rows m.first m.place c.relabel-labels.result pre.0 pre.1 pre.2 a.kn a.val c.drawn-known.result c.drawn-digits.result
    c.merge-m.ensures c.relabel-labels.ensures c.drawn-known.ensures c.drawn-digits.ensures _ _ none)
    c.codes_for-c.ensures
