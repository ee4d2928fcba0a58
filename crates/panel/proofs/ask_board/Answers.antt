-- `ask_board`: the `bound` line, and then the `limit` line. Assumes nothing.
use Rattle.std.proofs.Common.{◌≡◌, rules}
use Rattle.std.proofs.lemmas.Result.{err_from_is_err_and}
use Rattle.sheet.specs.Examine.{at_bound, ask_line}
use Rattle.design.specs.HandedLaws.{handed_value, handed_error}
use Rattle.design.specs.ExamineLaws.{no_at}
use Rattle.panel.specs.AskLaws.{step_held, bound-refused, limit_refused, board_passed}
use Rattle.panel.proofs.ask_board.Goals as goal

pub ask_line-requires : goal.ask_line-requires
ask_line-requires c =
    let k = c.requires.holds in
    (k.inputs_few, k.outputs_few)

pub returns-in_err-a : goal.returns-in_err-a
returns-in_err-a c = λ d bs n h e i.
    let r = err_from_is_err_and c.from_residual.result c.from_residual.ensures.1 in
    let q = handed_error c.ask_line.result c.map_err.result _ c.in_err-a.field-0.0 c.map_err.ensures.cases c.in_err-a.was in
    let is = q.1 in
    let refusal : c.in_err-a.field-0.0 ≡ no_at q.0 1 = search rules in
    rw (r.1, r.2, refusal) (bound-refused d bs n _ e q.0 (rw is at (c.ask_line.ensures d h tt)))

pub ask_line-requires-2 : goal.ask_line-requires-2
ask_line-requires-2 c =
    let pre = c.requires in
    let is = handed_value c.ask_line.result c.map_err.result _ c.in_ok-a.a c.map_err.ensures.cases c.in_ok-a.was in
    let k = (step_held (ask_line at_bound pre.design c.args.bound.now) c.in_ok-a.a (rw is at (c.ask_line.ensures pre.design pre.holds tt))).holds in
    (k.inputs_few, k.outputs_few)

pub returns-in_err-b : goal.returns-in_err-b
returns-in_err-b c = λ d bs n h e i.
    let r = err_from_is_err_and c.from_residual-in_err-b.result c.from_residual-in_err-b.ensures.1 in
    let is = handed_value c.ask_line.result c.map_err.result _ c.in_ok-a.a c.map_err.ensures.cases c.in_ok-a.was in
    let q = handed_error c.ask_line-2.result c.map_err-2.result _ c.in_err-b.field-0.0 c.map_err-2.ensures.cases c.in_err-b.was in
    let no = q.1 in
    let refusal : c.in_err-b.field-0.0 ≡ no_at q.0 2 = search rules in
    rw (r.1, r.2, refusal)
    (limit_refused d bs n _ e c.in_ok-a.a (rw is at (c.ask_line.ensures d h tt)) _ i q.0 (λ x g. rw no at (c.ask_line-2.ensures x g tt)))

pub returns : goal.returns
returns c = λ d bs n h e i.
    let is = handed_value c.ask_line.result c.map_err.result _ c.in_ok-a.a c.map_err.ensures.cases c.in_ok-a.was in
    let last = handed_value c.ask_line-2.result c.map_err-2.result _ c.in_ok-b.b c.map_err-2.ensures.cases c.in_ok-b.was in
    board_passed d bs n _ e c.in_ok-a.a (rw is at (c.ask_line.ensures d h tt)) _ i c.in_ok-b.b (λ x g. rw last at (c.ask_line-2.ensures x g tt))
