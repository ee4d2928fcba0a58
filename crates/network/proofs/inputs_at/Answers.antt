-- `inputs_at`: the items, the closing bracket and a space. Assumes nothing.
use Rattle.std.proofs.Common.{map, drop}
use Rattle.names.specs.Pack.{name_of}
use Rattle.network.specs.HeadLaws.{inputs_no_names, inputs_end}
use Rattle.network.proofs.inputs_at.Goals as goal

pub returns-in_err-next : goal.returns-in_err-next
returns-in_err-next c = let a = c.args in
    rw c.from_residual.ensures
    (inputs_no_names a.first (map name_of a.ns.now) (drop a.c.at a.s.now) c.in_err-next.ensures)

pub text-requires : goal.text-requires
text-requires c = c.in_ok-next.ensures.inside

pub returns : goal.returns
returns c = let a = c.args in
    inputs_end a.first (map name_of a.ns.now) (drop a.c.at a.s.now) c.in_ok-next.ensures c.text.result c.text.ensures
