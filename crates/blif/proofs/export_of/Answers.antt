-- `export_of`: a refusal, or the text of the pair that passed. Assumes nothing.
use Rattle.std.proofs.lemmas.Result.{err_from_is_err_and}
use Rattle.blif.proofs.Refused.{answer_refused}
use Rattle.blif.specs.AnswerLaws.{some_passed, answer-short, answer-written}
use Rattle.blif.proofs.export_of.Goals as goal

pub returns-in_err-b : goal.returns-in_err-b
returns-in_err-b c = λ x h r.
    let p = err_from_is_err_and c.from_residual.result c.from_residual.ensures.1 in
    rw (p.1, p.2) (answer_refused c.args.network.now c.in_err-b.field-0.0 x (rw c.in_err-b.was at (c.examine_pair.ensures x h r)) _)

pub put_blif-length-requires : goal.put_blif-length-requires
put_blif-length-requires c = let pre = c.requires in
    some_passed c.args.network.now c.in_ok-b.b pre.found (rw c.in_ok-b.was at (c.examine_pair.ensures pre.found pre.is pre.right))

pub returns-then-buffer-length : goal.returns-then-buffer-length
returns-then-buffer-length c = λ x h r.
    answer-short c.args.network.now c.in_ok-b.b x (rw c.in_ok-b.was at (c.examine_pair.ensures x h r)) _ _ _ _
    c.put_blif-length.ensures c.if-buffer-length.true

pub put_blif-requires : goal.put_blif-requires
put_blif-requires c = let pre = c.requires in
    some_passed c.args.network.now c.in_ok-b.b pre.found (rw c.in_ok-b.was at (c.examine_pair.ensures pre.found pre.is pre.right))

pub returns : goal.returns
returns c = λ x h r.
    answer-written c.args.network.now c.in_ok-b.b x (rw c.in_ok-b.was at (c.examine_pair.ensures x h r)) _ _ _ _
    c.put_blif-length.ensures _ _ c.if-buffer-length.false c.put_blif.ensures
