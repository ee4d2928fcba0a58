-- `table_of`: one law for each way out. Assumes nothing.
use Rattle.std.proofs.Common.{ap, ◌∙◌, List, ℕ, arith}
use Rattle.std.proofs.lemmas.Result.{err_from_is_err_and}
use Rattle.design.specs.Tabulate.{written}
use Rattle.design.specs.TableLaws.{valid_here, rows_few, table-refused, table_no_output, table_short, table-written}
use Rattle.design.proofs.table_of.Goals as goal

pub returns-in_err-k : goal.returns-in_err-k
returns-in_err-k c = λ x h.
    let p = err_from_is_err_and c.from_residual.result c.from_residual.ensures.1 in
    rw (p.1, p.2) (table-refused x c.args.output c.args.buffer.now c.in_err-k.field-0.0 (rw c.in_err-k.was at h))

pub returns-then-k-output : goal.returns-then-k-output
returns-then-k-output c = λ x h.
    table_no_output x c.args.output c.args.buffer.now c.in_ok-k.k (valid_here x c.in_ok-k.k (rw c.in_ok-k.was at h)) c.if-k-output.true

pub power-n-requires : goal.power-n-requires
power-n-requires c = omega (arith, (valid_here c.requires.found c.in_ok-k.k (rw c.in_ok-k.was at c.requires.is)).holds.inputs_few)

pub returns-then-buffer-n : goal.returns-then-buffer-n
returns-then-buffer-n c = λ x h.
    table_short x c.args.output c.args.buffer.now c.in_ok-k.k (valid_here x c.in_ok-k.k (rw c.in_ok-k.was at h))
    c.power-n.result c.power-n.ensures c.if-k-output.false c.if-buffer-n.true

pub bounds-k-output : goal.bounds-k-output
bounds-k-output c = omega (arith, (valid_here c.requires.found c.in_ok-k.k (rw c.in_ok-k.was at c.requires.is)).holds.outputs_few)

pub put_digits-requires : goal.put_digits-requires
put_digits-requires c =
    let found = valid_here c.requires.found c.in_ok-k.k (rw c.in_ok-k.was at c.requires.is) in
    (rows_few c.requires.found c.args.output c.args.buffer.now c.in_ok-k.k found c.power-n.result c.power-n.ensures, c.if-buffer-n.false)

pub returns : goal.returns
returns c = λ x h.
    ap (λ (b : List ℕ). record { answer = written c.power-n.result; buffer = b }) c.put_digits.ensures
    ∙ table-written x c.args.output c.args.buffer.now c.in_ok-k.k (valid_here x c.in_ok-k.k (rw c.in_ok-k.was at h))
    c.power-n.result c.power-n.ensures c.if-k-output.false c.if-buffer-n.false
