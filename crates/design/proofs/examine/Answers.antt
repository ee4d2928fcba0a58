use Rattle.std.specs.Prelude.{refl, Err}
use Rattle.std.proofs.Common.{◌≡◌, sym, ◌∙◌, arith, rules}
use Rattle.std.proofs.lemmas.Result.{err_from_is_err_and}
use Rattle.design.specs.HandedLaws.{handed_value, handed_error}
use Rattle.design.specs.ExamineLaws.{examined, no_at, along_start, along_end, line_refused, line_passed, not-sized}
use Rattle.design.proofs.examine.Goals as goal

pub returns-then-not-sized : goal.returns-then-not-sized
returns-then-not-sized c =
    let s = c.args.s.now in
    let e = examined s _ (not-sized s _ (sym c.if-not-sized.true ∙ c.sized.ensures) (record { number = refl; line = refl })) in
    record { examined_is = e.0; examination = e.1 }

pub loop-at-init : goal.loop-at-init
loop-at-init c = along_start c.args.s.now c.blank-k.result (sym c.if-not-sized.false ∙ c.sized.ensures) c.blank-k.ensures

pub line_end-e-requires : goal.line_end-e-requires
line_end-e-requires c = c.loop-at.invariant.inside

pub returns-in_err-step : goal.returns-in_err-step
returns-in_err-step c =
    let l = c.loop-at in
    let w = l.invariant in
    let a = err_from_is_err_and c.from_residual.result c.from_residual.ensures.1 in
    let h = handed_error c.ask_line.result c.map_err.result _ c.in_err-step.field-0.0 c.map_err.ensures.cases c.in_err-step.was in
    let is = h.1 in
    let refusal : c.in_err-step.field-0.0 ≡ no_at h.0 l.n = search rules in
    let e =
    examined c.args.s.now _
    (line_refused c.args.s.now l.p l.k l.at l.n c.line_end-e.result w c.loop-at-test.true c.line_end-e.ensures h.0
    (rw is at (c.ask_line.ensures w.known w.holds w.fitting)) (Err (no_at h.0 l.n)) (record { number = refl; line = refl })) in
    rw (a.1, a.2, refusal) (record { examined_is = e.0; examination = e.1 })

pub loop-at-preserved : goal.loop-at-preserved
loop-at-preserved c =
    let l = c.loop-at in
    let w = l.invariant in
    let is = handed_value c.ask_line.result c.map_err.result _ c.in_ok-step.step c.map_err.ensures.cases c.in_ok-step.was in
    line_passed c.args.s.now l.p l.k l.at l.n c.line_end-e.result w c.loop-at-test.true c.line_end-e.ensures c.in_ok-step.step
    (rw is at (c.ask_line.ensures w.known w.holds w.fitting))

pub returns : goal.returns
returns c =
    let s = c.args.s.now in
    let w = c.loop-at.invariant in
    let e = examined s c.ended.result (along_end s _ _ _ _ c.ended.result w c.loop-at-test.false (c.ended.ensures w.known w.holds)) in
    record { examined_is = e.0; examination = e.1 }
