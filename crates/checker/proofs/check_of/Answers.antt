-- `check_of`: a refusal, or the comparison of the pair that passed. Assumes nothing.
use Rattle.std.proofs.lemmas.Result.{err_from_is_err_and}
use Rattle.comparing.specs.Answer.{comparison_of}
use Rattle.checker.specs.CheckLaws.{answer_refused, some_drawing, answer_compared}
use Rattle.checker.proofs.check_of.Goals as goal

pub returns-in_err-b : goal.returns-in_err-b
returns-in_err-b c = λ x h g.
    let p = err_from_is_err_and c.from_residual.result c.from_residual.ensures.1 in
    rw (p.1, p.2) (answer_refused c.args.network.now x c.in_err-b.field-0.0 (rw c.in_err-b.was at (c.examine_pair.ensures x h g)))

pub compare-requires : goal.compare-requires
compare-requires c = let pre = c.requires in
    some_drawing c.args.network.now c.in_ok-b.b pre.found (rw c.in_ok-b.was at (c.examine_pair.ensures pre.found pre.is pre.right))

pub returns : goal.returns
returns c = λ x h g.
    answer_compared c.args.network.now c.in_ok-b.b x (comparison_of c.compare.result)
    (rw c.in_ok-b.was at (c.examine_pair.ensures x h g)) c.compare.ensures
