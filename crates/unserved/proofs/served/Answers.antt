use Rattle.std.proofs.Common.{arith, inl, refl, subst, true, Bool}
use Rattle.problem.specs.declared.Answer.{Answer}
use Rattle.problem.specs.Answer.{is_found}
use Rattle.readingsets.specs.declared.Core.{Core}
use Rattle.readingsets.specs.Answered.{core_rows, core_codes}
use Rattle.seeking.specs.Seeking.{Sought}
use Rattle.fewest.specs.CountLaws.{not_found}
use Rattle.unserved.specs.Asking.{Decided}
use Rattle.unserved.specs.QuestionLaws.{sought_decided}
use Rattle.unserved.proofs.served.Goals as goal

pub seek-requires : goal.seek-requires
seek-requires c = let a = c.args in
    let p = c.requires in
    (p.0, refl, p.1, p.2, p.3, omega arith, inl refl, c.clear.ensures a.kept.labels _ 0 0 a.v)

pub returns-in-Found : goal.returns-in-Found
returns-in-Found c = let a = c.args in
    let k = a.kept in
    let s = subst (λ (r : Answer Core). Sought k.labels _ k.budgets 0 0 a.v k.outputs a.limit 0 (is_found r) (core_rows r) (core_codes r)) c.in-Found.is c.seek.ensures.0 in
    (sought_decided k.labels _ k.budgets a.v k.outputs a.limit true _ _ s, c.seek.ensures.1.long)

pub returns-in_default : goal.returns-in_default
returns-in_default c = let a = c.args in
    let k = a.kept in
    let r = c.seek.result.answer in
    let d = sought_decided k.labels _ k.budgets a.v k.outputs a.limit (is_found r) (core_rows r) (core_codes r) c.seek.ensures.0 in
    (subst (λ (b : Bool). Decided k.labels k.budgets a.v k.outputs a.limit b) (not_found r c.in_default.not-Found) d, c.seek.ensures.1.long)
