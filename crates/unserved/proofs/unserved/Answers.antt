use Rattle.std.proofs.Common.{arith}
use Rattle.unserved.specs.AnsweredLaws.{answer_found, answer-all, all_some}
use Rattle.unserved.specs.QuestionLaws.{stand_lacking}
use Rattle.unserved.proofs.unserved.Goals as goal

pub returns-in-Some : goal.returns-in-Some
returns-in-Some c = let a = c.args in
    let lacking = stand_lacking a.cl.now a.budgets a.v a.m a.limit c.first_outputs-all.result c.kept_of.result.labels c.kept_of.result.budgets c.kept_of.result.outputs c.served.result
    c.kept_of.ensures c.served.ensures.0 c.if-served.false in
    let some = c.in-Some.ensures.1 in (
      answer_found a.cl.now a.budgets a.v a.m a.limit c.first_outputs-all.result c.first_outputs-all.ensures lacking c.loop-k.k c.in-Some.s (λ e. omega arith)
          c.loop-k.invariant.0 c.in-Some.ensures.0,
      some,
    )

pub returns : goal.returns
returns c = let a = c.args in
    let lacking = stand_lacking a.cl.now a.budgets a.v a.m a.limit c.first_outputs-all.result c.kept_of.result.labels c.kept_of.result.budgets c.kept_of.result.outputs c.served.result
    c.kept_of.ensures c.served.ensures.0 c.if-served.false in (
      answer-all a.cl.now a.budgets a.v a.m a.limit c.first_outputs-all.result c.first_outputs-all.ensures lacking c.loop-k.k c.loop-k-test.false c.loop-k.invariant.0,
      all_some a.cl.now a.budgets a.v a.m a.limit c.first_outputs-all.result c.first_outputs-all.ensures lacking,
    )
