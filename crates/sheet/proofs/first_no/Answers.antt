-- `first_no`: each return rewrites with the tests before it. Assumes nothing.
use Rattle.std.proofs.Common.{sym}
use Rattle.std.proofs.lemmas.Result.{err_from_is_err_and}
use Rattle.sheet.specs.ListLaws.{no_to_two, no_to_three, no_to_four, no_to_none}
use Rattle.sheet.proofs.Exits.{stopped_at, went_on}
use Rattle.sheet.proofs.first_no.Goals as goal

pub returns-in_err-l : goal.returns-in_err-l
returns-in_err-l c =
    let p = err_from_is_err_and c.from_residual.result c.from_residual.ensures.1 in
    let s = stopped_at c.args.w _ _ c.in_err-l.ensures.value in
    rw (p.1, p.2, s.1, s.0) (no_to_two c.args.high)

pub returns-then-not-in_range : goal.returns-then-not-in_range
returns-then-not-in_range c =
    let is = went_on c.args.w _ _ c.in_ok-l.ensures.value in
    rw is (no_to_three c.args.high c.in_ok-l.l (sym c.if-not-in_range.ensures))

pub returns-then-not-distinct : goal.returns-then-not-distinct
returns-then-not-distinct c =
    let is = went_on c.args.w _ _ c.in_ok-l.ensures.value in
    rw is
    (no_to_four c.args.high c.in_ok-l.l (sym c.if-not-in_range.ensures) (sym c.if-not-distinct.ensures))

pub returns : goal.returns
returns c =
    let is = went_on c.args.w _ _ c.in_ok-l.ensures.value in
    rw is
    (no_to_none c.args.high c.in_ok-l.l (sym c.if-not-in_range.ensures) (sym c.if-not-distinct.ensures))
