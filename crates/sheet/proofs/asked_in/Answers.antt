-- `asked_in`: the first question with the answer "no", or the design with the inputs. Assumes nothing.
use Rattle.std.proofs.lemmas.Result.{err_from_is_err_and}
use Rattle.sheet.specs.InLaws.{in_asks, in_onward}
use Rattle.sheet.specs.ListLaws.{counted_few, list_refused, list_good}
use Rattle.sheet.proofs.asked_in.Goals as goal

pub returns-in_err-l : goal.returns-in_err-l
returns-in_err-l c = λ d x l h f.
    let p = err_from_is_err_and c.from_residual.result c.from_residual.ensures.1 in
    rw (p.1, p.2) (list_refused (in_asks d) x c.args.w c.in_err-l.field-0.0 l c.in_err-l.ensures)

pub returns : goal.returns
returns c = λ d x l h f.
    let w = c.in_ok-l.l in
    let few = counted_few 10 c.args.w w c.in_ok-l.ensures in
    list_good (in_asks d) x c.args.w w _ l c.in_ok-l.ensures (in_onward h f w.count w.names few)
