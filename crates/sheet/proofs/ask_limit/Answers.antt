-- `ask_limit`: the line's number, by questions 2 and 3. Assumes nothing.
use Rattle.std.proofs.lemmas.Result.{err_from_is_err_and}
use Rattle.sheet.specs.Lines.{read_limit}
use Rattle.sheet.specs.LimitLaws.{limit_misspelled, limit_too_large, limit_passes}
use Rattle.sheet.proofs.Exits.{stopped_at, went_on}
use Rattle.sheet.proofs.ask_limit.Goals as goal

pub returns-in_err-limit : goal.returns-in_err-limit
returns-in_err-limit c = λ d h.
    let p = err_from_is_err_and c.from_residual.result c.from_residual.ensures.1 in
    let s = stopped_at c.limit_line.result _ _ c.in_err-limit.ensures.value in
    rw (p.1, p.2, s.1) (limit_misspelled d (read_limit c.args.l.now) (rw s.0 at c.limit_line.ensures))

pub returns-then-limit-gt-MAX_LIMIT : goal.returns-then-limit-gt-MAX_LIMIT
returns-then-limit-gt-MAX_LIMIT c = λ d h.
    let is = went_on c.limit_line.result _ _ c.in_ok-limit.ensures.value in
    limit_too_large d (read_limit c.args.l.now) c.in_ok-limit.limit (rw is at c.limit_line.ensures) c.if-limit-gt-MAX_LIMIT.true

pub returns : goal.returns
returns c = λ d h.
    let is = went_on c.limit_line.result _ _ c.in_ok-limit.ensures.value in
    limit_passes d (read_limit c.args.l.now) c.args.k c.in_ok-limit.limit (rw is at c.limit_line.ensures) c.if-limit-gt-MAX_LIMIT.false h
