use Rattle.dominance.specs.KeptLaws.{kept_sought}
use Rattle.std.proofs.Common.{◌≡◌, ◌+◌, arith, ap, refl, true, false, subst}
use Rattle.problem.specs.declared.Answer.{Answer}
use Rattle.problem.specs.Answer.{is_found}
use Rattle.readingsets.specs.declared.Core.{Core}
use Rattle.readingsets.specs.Answered.{core_rows, core_codes}
use Rattle.seeking.specs.Seeking.{Sought}
use Rattle.fewest.specs.CountLaws.{no_fewer_start, no_fewer_more, no_fewer_kept, answer_found, answer_none, not_found}
use Rattle.fewest.proofs.fewest.Goals as goal

pub loop-u-init : goal.loop-u-init
loop-u-init c = let a = c.args in
    let k = c.kept-kept.result in
    (refl, no_fewer_start k.labels _ k.budgets a.v k.outputs, c.clear.ensures k.labels _ 0 0 a.v)

pub returns-in-Found : goal.returns-in-Found
returns-in-Found c = let a = c.args in
    let p = c.requires in
    let cl = a.cl.now in
    let k = c.kept-kept.result in
    let core = c.in-Found.core in
    let s = subst (λ (r : Answer Core). Sought k.labels _ k.budgets 0 0 a.v k.outputs c.loop-u.u 0 (is_found r) (core_rows r) (core_codes r)) c.in-Found.is c.seek-k.ensures.0 in
    let found = kept_sought cl _ a.budgets k.labels k.budgets 0 0 a.v a.m k.outputs c.loop-u.u 0 k.by c.kept-kept.ensures
    core.rows c.placed.result core.codes c.placed.ensures true s in (
      answer_found cl _ a.budgets a.v a.m c.loop-u.u a.limit c.placed.result core.codes c.opened-rows.result c.zero_first-codes.result true
          p.1 p.2 p.3 (omega arith) refl found c.opened-rows.ensures c.zero_first-codes.ensures
          (no_fewer_kept cl _ a.budgets a.v a.m k.labels k.budgets k.outputs k.by c.loop-u.u c.kept-kept.ensures c.loop-u.invariant.1),
      c.seek-k.ensures.1.long,
    )

pub loop-u-preserved : goal.loop-u-preserved
loop-u-preserved c = let a = c.args in
    let k = c.kept-kept.result in
    let r = c.seek-k.result.answer in (
      refl,
      no_fewer_more k.labels _ k.budgets a.v k.outputs c.loop-u.u (core_rows r) (core_codes r) (is_found r) (not_found r c.in_default.not-Found) c.seek-k.ensures.0 c.loop-u.invariant.1,
      c.seek-k.ensures.1,
    )

pub returns-in_default : goal.returns-in_default
returns-in_default c = let a = c.args in
    let k = c.kept-kept.result in
    let r = c.seek-k.result.answer in
    let more = no_fewer_more k.labels _ k.budgets a.v k.outputs c.loop-u.u (core_rows r) (core_codes r) (is_found r) (not_found r c.in_default.not-Found) c.seek-k.ensures.0 c.loop-u.invariant.1 in (
      answer_none a.cl.now _ a.budgets a.v a.m (c.loop-u.u + 1) a.limit _ _ (omega arith)
          (no_fewer_kept a.cl.now _ a.budgets a.v a.m k.labels k.budgets k.outputs k.by (c.loop-u.u + 1) c.kept-kept.ensures more),
      c.seek-k.ensures.1.long,
    )
