-- `lut_head`: each part where the one before ends. Assumes nothing.
use Rattle.std.proofs.Common.{map}
use Rattle.names.specs.Pack.{name_of}
use Rattle.network.specs.HeadLaws.{lut_no_word, lut_no_number, lut-no-list, lut_list}
use Rattle.network.proofs.lut_head.Goals as goal

pub returns-in_err-a : goal.returns-in_err-a
returns-in_err-a c = let a = c.args in
    rw c.from_residual.ensures
    (lut_no_word a.l.now (map name_of a.bs.now) a.i (rw c.start.ensures at c.in_err-a.ensures))

pub lut_at-requires : goal.lut_at-requires
lut_at-requires c = (c.in_ok-a.ensures.inside, c.requires)

pub returns-in_err-b : goal.returns-in_err-b
returns-in_err-b c = let a = c.args in
    rw c.from_residual-in_err-b.ensures
    (lut_no_number a.l.now (map name_of a.bs.now) a.i (rw c.start.ensures at c.in_ok-a.ensures) c.in_err-b.ensures)

pub text-requires-2 : goal.text-requires-2
text-requires-2 c = c.in_ok-b.ensures.inside

pub returns-in_err-d : goal.returns-in_err-d
returns-in_err-d c = let a = c.args in
    rw c.from_residual-in_err-d.ensures
    (lut-no-list a.l.now (map name_of a.bs.now) a.i (rw c.start.ensures at c.in_ok-a.ensures) c.in_ok-b.ensures c.in_err-d.ensures)

pub inputs_at-requires : goal.inputs_at-requires
inputs_at-requires c = c.in_ok-d.ensures.inside

pub returns : goal.returns
returns c = let a = c.args in
    lut_list a.l.now (map name_of a.bs.now) a.i (rw c.start.ensures at c.in_ok-a.ensures) c.in_ok-b.ensures c.in_ok-d.ensures c.inputs_at.result
    c.inputs_at.ensures
