-- `ask_out`: the questions in turn, each on what the line and the sheet say. Assumes nothing.
use Rattle.std.proofs.Common.{sym, ◌∙◌, ⊎_elim, arith}
use Rattle.std.proofs.lemmas.Result.{err_from_is_err_and}
use borrow.Author.Tests.{not-true, not-false}
use Rattle.sheet.specs.AskOutLaws.{out_misspelled, out_spelled, out_fifth, out_deep, out-old-name, out-unknown, out-passes}
use Rattle.sheet.specs.Lines.{read_out}
use Rattle.sheet.proofs.Exits.{stopped_at, went_on}
use Rattle.sheet.proofs.ask_out.Goals as goal

pub returns-in_err-w : goal.returns-in_err-w
returns-in_err-w c = λ d h.
    let p = err_from_is_err_and c.from_residual.result c.from_residual.ensures.1 in
    let s = stopped_at c.out_line.result _ _ c.in_err-w.ensures.value in
    rw (p.1, p.2, s.1) (out_misspelled d c.args.k h (read_out c.args.l.now) (rw s.0 at c.out_line.ensures))

pub returns-then-k-ge-MAX_OUTPUTS : goal.returns-then-k-ge-MAX_OUTPUTS
returns-then-k-ge-MAX_OUTPUTS c = λ d h.
    let k = c.args.k in
    let w = c.in_ok-w.w in
    let is = went_on c.out_line.result _ _ c.in_ok-w.ensures.value in
    out_spelled d k h w _ (read_out c.args.l.now) (rw is at c.out_line.ensures) (λ x g.
    ⊎_elim
    (λ a. out_fifth d k h w x g a)
    (λ a. out_deep d k h w x g a.0 (omega arith))
    c.then-k-ge-MAX_OUTPUTS.either)

pub returns-then-not-is_new : goal.returns-then-not-is_new
returns-then-not-is_new c = λ d h.
    let k = c.args.k in
    let w = c.in_ok-w.w in
    let is = went_on c.out_line.result _ _ c.in_ok-w.ensures.value in
    out_spelled d k h w _ (read_out c.args.l.now) (rw is at c.out_line.ensures) (λ x g.
    out-old-name d k h w x g (omega arith) (omega arith) (sym c.if-not-is_new.true ∙ c.is_new.ensures d h))

pub returns-then-not-w : goal.returns-then-not-w
returns-then-not-w c = λ d h.
    let k = c.args.k in
    let w = c.in_ok-w.w in
    let is = went_on c.out_line.result _ _ c.in_ok-w.ensures.value in
    out_spelled d k h w _ (read_out c.args.l.now) (rw is at c.out_line.ensures) (λ x g.
    out-unknown d k h w x g (omega arith) (omega arith)
    (sym c.if-not-is_new.false ∙ c.is_new.ensures d h) (not-true w.known c.if-not-w.true))

pub returns : goal.returns
returns c = λ d h.
    let k = c.args.k in
    let w = c.in_ok-w.w in
    let is = went_on c.out_line.result _ _ c.in_ok-w.ensures.value in
    out_spelled d k h w _ (read_out c.args.l.now) (rw is at c.out_line.ensures) (λ x g.
    out-passes d k h w x g (omega arith) (omega arith)
    (sym c.if-not-is_new.false ∙ c.is_new.ensures d h) c.with_output.result (not-false w.known c.if-not-w.false)
    (c.with_output.ensures d x h))
