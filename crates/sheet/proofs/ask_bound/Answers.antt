-- `ask_bound`: the first question with the answer "no", or the design with the bound inputs. Assumes nothing.
use Rattle.std.proofs.Common.{arith}
use Rattle.std.proofs.lemmas.Grind.{common_steps}
use Rattle.std.proofs.lemmas.Result.{err_from_is_err_and}
use Rattle.sheet.specs.BoundLaws.{bound_asks, bound-reads, bound_unknown, bound-onward}
use Rattle.sheet.specs.ListLaws.{counted_few, list_refused, list_good}
use Rattle.sheet.proofs.Exits.{stopped_at, went_on}
use Rattle.sheet.proofs.ask_bound.Goals as goal

pub returns-in_err-w : goal.returns-in_err-w
returns-in_err-w c = λ d h.
    let p = err_from_is_err_and c.from_residual.result c.from_residual.ensures.1 in
    rw (p.1, p.2)
    (list_refused (bound_asks d) _ c.names_line.result c.in_err-w.field-0.0 (bound-reads _ c.names_line.result c.names_line.ensures) c.in_err-w.ensures)

pub shared_ref_as_front-placed : goal.shared_ref_as_front-placed
shared_ref_as_front-placed c =
    omega (arith, counted_few 5 c.names_line.result c.in_ok-w.w c.in_ok-w.ensures)

pub placed-requires : goal.placed-requires
placed-requires c =
    let few = counted_few 5 c.names_line.result c.in_ok-w.w c.in_ok-w.ensures in
    grind (arith, common_steps)

-- the line comes to what question 5 comes to
pub returns-in_err-bound : goal.returns-in_err-bound
returns-in_err-bound c = λ d h.
    let w = c.in_ok-w.w in
    let p = err_from_is_err_and c.from_residual-in_err-bound.result c.from_residual-in_err-bound.ensures.1 in
    let s = stopped_at c.placed.result _ _ c.in_err-bound.ensures.value in
    rw (p.1, p.2, s.1)
    (list_good (bound_asks d) _ c.names_line.result w _ (bound-reads _ c.names_line.result c.names_line.ensures) c.in_ok-w.ensures
    (λ ns counted named. bound_unknown h w.count w.names ns counted named (rw s.0 at c.placed.ensures)))

pub returns : goal.returns
returns c = λ d h.
    let w = c.in_ok-w.w in
    let few = counted_few 5 c.names_line.result w c.in_ok-w.ensures in
    let is = went_on c.placed.result _ _ c.in_ok-bound.ensures.value in
    list_good (bound_asks d) _ c.names_line.result w _ (bound-reads _ c.names_line.result c.names_line.ensures) c.in_ok-w.ensures
    (λ ns counted named. bound-onward h w.count w.names ns counted named c.in_ok-bound.bound (rw is at c.placed.ensures) few)
